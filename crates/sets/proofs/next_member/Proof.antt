-- `next_member` meets its contract.
use Rattle.sets.proofs.Scan.{scan_laws}
use Rattle.sets.proofs.next_member.Statement.{statement}
use Rattle.sets.proofs.next_member.Tie as tie

pub next_member_spec : {M : Type 1} → statement M
next_member_spec =
    tie.close
    (tie.spec (λ c. search scan_laws) (λ c. search scan_laws) (λ c. search scan_laws) (λ c. search scan_laws) (λ c κs. search scan_laws)
    (λ c. search scan_laws) (λ c. search scan_laws) (λ c. search scan_laws) (λ c κs. search scan_laws) (λ c. search scan_laws))
