-- `line` meets its contract: the line of the verdict, where it has room.
use Rattle.verdict_line.proofs.Judging.{printed_laws}
use Rattle.verdict_line.proofs.line.Statement.{statement}
use Rattle.verdict_line.proofs.line.Tie as tie

pub line_spec : {M : Type 1} → statement M
line_spec =
    tie.close
    (tie.spec (λ c. search printed_laws) (λ c. search printed_laws) (λ c κs. search printed_laws) (λ c. search printed_laws) (λ c κs. search printed_laws)
    (λ c. search printed_laws) (λ c. search printed_laws))
