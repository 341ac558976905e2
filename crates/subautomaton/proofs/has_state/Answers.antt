-- The range has the states in order.
use Rattle.std.proofs.Common.{refl, ◌∙◌, arith, rules}
use Rattle.std.proofs.lemmas.Iterator.{YieldsList-from_range}
use Rattle.std.proofs.lemmas.Iterator.Search.{any_from_yields_List}
use Rattle.sheets.specs.Sheet.{state_count, read}
use Rattle.subautomaton.specs.inner.Tables.{is_held}
use Rattle.subautomaton.proofs.Loops.{any_states}
use Rattle.subautomaton.proofs.has_state.Goals as goal

pub returns : goal.returns
returns c =
    let f = is_held (read c.args.b.now) c.args.cb.now c.args.k c.args.accept in
    any_from_yields_List f _ _ _ c.any.ensures.ran (YieldsList-from_range 0 _ (state_count c.args.b.now) refl (omega arith)) (λ x b q k. search rules) ∙ any_states f _
