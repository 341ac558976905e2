-- `next_near` meets its contract.
use Rattle.determinize.proofs.Swept.{next_laws}
use Rattle.determinize.proofs.sweeping.next_near.Statement.{statement}
use Rattle.determinize.proofs.sweeping.next_near.Tie as tie

pub next_near_spec : {M : Type 1} → statement M
next_near_spec = tie.close (tie.spec (λ c. search next_laws) (λ c. search next_laws))
