-- `determinize_accepted` meets its contract.
use Rattle.std.proofs.Common.{rules}
use Rattle.determinize.proofs.determinize_accepted.Statement.{statement}
use Rattle.determinize.proofs.determinize_accepted.Tie as tie

pub determinize_accepted_spec : {M : Type 1} → statement M
determinize_accepted_spec = tie.close (tie.spec (λ c κs. search rules) (λ c. search rules) (λ c. search rules))
