-- The range has the states in order.
use Rattle.std.proofs.Common.{refl, ◌∙◌, arith}
use Rattle.std.proofs.lemmas.Iterator.{YieldsList-from_range}
use Rattle.std.proofs.lemmas.Iterator.Search.{all_from_yields_List}
use Rattle.sheets.specs.Sheet.{state_count, read}
use Rattle.subautomaton.specs.inner.Tables.{is_held_in}
use Rattle.subautomaton.proofs.Loops.{all_states}
use Rattle.subautomaton.proofs.Matching.{states_laws}
use Rattle.subautomaton.proofs.has_states.Goals as goal

pub returns : goal.returns
returns c =
    let f = is_held_in (read c.args.a.now) (read c.args.b.now) c.args.ca.now c.args.cb.now in
    all_from_yields_List f _ _ _ c.all.ensures.ran (YieldsList-from_range 0 _ (state_count c.args.a.now) refl (omega arith)) (λ x b q k. search states_laws) ∙ all_states f _
