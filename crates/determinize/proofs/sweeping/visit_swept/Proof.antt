-- `visit_swept` meets its contract.
use Rattle.std.proofs.Common.{rules}
use Rattle.determinize.proofs.Swept.{visit_swept_done, numbered_next}
use Rattle.determinize.proofs.sweeping.visit_swept.Statement.{statement}
use Rattle.determinize.proofs.sweeping.visit_swept.Tie as tie

pub visit_swept_spec : {M : Type 1} → statement M
visit_swept_spec =
    tie.close
    (tie.spec (λ c. search rules) (λ c κs. search rules) (λ c. search rules)
    (λ c κs.
    (c.requires.3, c.requires.4, search rules, c.requires.6, c.requires.7))
    (λ c. search rules) (λ c. search rules)
    (λ c κs. search rules) (λ c κs. search rules) (λ c. search rules) (λ c. search rules) (λ c. search rules)
    (λ c. (
      visit_swept_done _ _ _ _ _ _ _ _ _ _ _ _ c.copy_row.ensures c.place_near-placed.ensures.0 c.note.ensures,
      (numbered_next _ _ _ _ _ _ _ c.place_near-placed.ensures.0 c.requires.6 c.next_near.ensures, c.place_near-placed.ensures.1),
    )))
