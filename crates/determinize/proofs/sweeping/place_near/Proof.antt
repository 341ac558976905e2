-- `place_near` meets its contract.
use Rattle.std.proofs.Common.{rules}
use Rattle.determinize.proofs.Swept.{near_known}
use Rattle.determinize.proofs.sweeping.place_near.Statement.{statement}
use Rattle.determinize.proofs.sweeping.place_near.Tie as tie

pub place_near_spec : {M : Type 1} → statement M
place_near_spec =
    tie.close
    (tie.spec (λ c κs. search rules) (λ c. search rules)
    (λ c.
    (near_known _ _ _ _ _ c.requires.0 c.requires.3 c.is_row.ensures c.if-is_row.true, c.requires.4))
    (λ c κs. (c.requires.0, c.requires.1, c.requires.2, c.requires.4))
    (λ c. search rules) (λ c. search rules)
    (λ c. (c.place.ensures.0, c.place.ensures.1)))
