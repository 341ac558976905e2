-- `step` meets its contract.
use borrow.Author.Rules.{rules}
use Rattle.sweep.proofs.Turns.{turn_cut, turn_step}
use Rattle.sweep.proofs.step.Statement.{statement}
use Rattle.sweep.proofs.step.Tie as tie

pub step_spec : {M : Type 1} → statement M
step_spec =
    tie.close
    (tie.spec (λ c κs. search rules) (λ c κs. search rules) (λ c κs. search rules) (λ c κs. search rules) (λ c. search rules) (λ c. search rules)
    (λ c. (
      turn_cut _ _ _ _ _ _ _ _ _ _ c.pass_endings-j.ensures.0 c.pass_openings-i.ensures.1 c.pass_endings-j.ensures.1 _ _ _ c.requires.2 c.cut_at-opening.ensures c.cut_at-cut.ensures,
      (turn_step _ _ _ _ _ _ _ _ _ _ c.pass_endings-j.ensures.0 c.pass_openings-i.ensures.1 c.pass_endings-j.ensures.1, search rules),
    )))
