-- `visit` meets its contract: the set that the span leads to is placed.
use Rattle.std.proofs.Common.{rules}
use Rattle.determinize.proofs.Visits.{visit_placed}
use Rattle.determinize.proofs.exploring.visit.Statement.{statement}
use Rattle.determinize.proofs.exploring.visit.Tie as tie

pub visit_spec : {M : Type 1} → statement M
visit_spec =
    tie.close
    (tie.spec (λ c. search rules) (λ c κs. search rules) (λ c. search rules)
    (λ c κs.
    (c.requires.1.0, c.requires.1.1, search rules, c.requires.1.2))
    (λ c. search rules) (λ c. search rules) (λ c. (search rules, (search visit_placed, c.place-placed.ensures.1))))
