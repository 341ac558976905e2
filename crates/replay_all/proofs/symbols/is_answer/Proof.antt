-- `is_answer` meets its contract: the test is that of the definition.
use Rattle.replay_all.proofs.Spans.{bit_laws}
use Rattle.replay_all.proofs.symbols.is_answer.Statement.{statement}
use Rattle.replay_all.proofs.symbols.is_answer.Tie as tie

pub is_answer_spec : {M : Type 1} → statement M
is_answer_spec =
    tie.close
    (tie.spec (λ c. search bit_laws) (λ c. search bit_laws))
