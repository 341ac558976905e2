-- The records of the front that are ended are counted.
use Rattle.std.proofs.Common.{◌≡◌, ◌∙◌, rules}
use Rattle.std.specs.List.{prefix_len}
use Rattle.std.proofs.lemmas.Iterator.{YieldsList-from_slice}
use Rattle.std.proofs.lemmas.Iterator.Consumers.{count_from_yields_List}
use Rattle.std.proofs.lemmas.Iterator.Search.{YieldsList-from_take_while}
use Rattle.std.proofs.lemmas.List.Folds.{length-prefix_len}
use Rattle.automata.specs.inner.Records.{record_at}
use Rattle.product.specs.inner.Tables.{ends_before}
use Rattle.product.proofs.Records.{pass_within, pass_front}
use Rattle.product.proofs.passing.pass_ended.Goals as goal

pub returns : goal.returns
returns c =
    let records = c.as_chunks.result.0.now in
    let n : c.count.result ≡ prefix_len (λ r. ends_before c.args.a (record_at r 0)) records =
    count_from_yields_List _ c.count.result c.count.ensures.ran
    (YieldsList-from_take_while _ (λ r. ends_before c.args.a (record_at r 0)) (YieldsList-from_slice records cc) c.take_while.ensures.closure c.take_while.ensures.done (λ x b q k. search rules))
    ∙ length-prefix_len _ records in
    let e = c.as_chunks.ensures.front in
    (pass_within c.args.run.now c.args.from c.args.a records e c.count.result n c.requires c.as_chunks.ensures.front_len, pass_front c.args.run.now c.args.from c.args.a records e c.count.result n)
