-- The range has the states in order.
use Rattle.std.proofs.Common.{refl, ◌∙◌, get_or, arith, rules}
use Rattle.std.proofs.lemmas.Iterator.{YieldsList-from_range}
use Rattle.std.proofs.lemmas.Iterator.Search.{any_from_yields_List}
use Rattle.automata.specs.inner.Records.{record_at}
use Rattle.sheets.specs.Sheet.{state_count, read}
use Rattle.subautomaton.specs.inner.Tables.{fits_from}
use Rattle.subautomaton.proofs.Loops.{any_states}
use Rattle.subautomaton.proofs.Matching.{fits_in_lem}
use Rattle.subautomaton.proofs.is_covered.Goals as goal

pub returns : goal.returns
returns c =
    let d = c.args.d.now in
    let ca = c.args.ca.now in
    let f = fits_from (read c.args.b.now) c.args.cb.now (get_or ca (get_or d 0 0) 0) (get_or ca (get_or d 4 0) 0) (record_at d 0) in
    fits_in_lem c.args.b.now ca c.args.cb.now d _
    (any_from_yields_List f _ _ _ c.any.ensures.ran (YieldsList-from_range 0 _ (state_count c.args.b.now) refl (omega arith)) (λ x b q k. search rules) ∙ any_states f _)
