-- The records of the front whose firsts are at most `first` are counted.
use Rattle.std.proofs.Common.{◌≡◌, ◌+◌, ◌*◌, ◌∙◌, get_or, ap, rules, tests, arith}
use lib.Dec.{leb}
use Rattle.std.specs.List.{prefix_len}
use Rattle.std.proofs.lemmas.Iterator.{YieldsList-from_slice}
use Rattle.std.proofs.lemmas.Iterator.Consumers.{count_from_yields_List}
use Rattle.std.proofs.lemmas.Iterator.Search.{YieldsList-from_take_while}
use Rattle.std.proofs.lemmas.List.Folds.{length-prefix_len}
use Rattle.totality.proofs.Merging.{leading_count, leading_within}
use Rattle.totality.proofs.total.records_before.Goals as goal

pub returns : goal.returns
returns c =
    let records = c.as_chunks.result.0.now in
    let n : c.count.result ≡ prefix_len (λ r. leb (get_or r 2 0) c.args.first) records =
    count_from_yields_List _ c.count.result c.count.ensures.ran
    (YieldsList-from_take_while _ (λ r. leb (get_or r 2 0) c.args.first) (YieldsList-from_slice records cc) c.take_while.ensures.closure c.take_while.ensures.done (λ x b q k. search (rules, tests)))
    ∙ length-prefix_len _ records in
    let e = c.as_chunks.ensures.front in
    (ap (λ m. c.args.i + 5 * m) (leading_count c.args.run.now c.args.i c.args.first records e c.count.result n), omega (arith, leading_within c.args.run.now c.args.i c.args.first records e c.count.result n))
