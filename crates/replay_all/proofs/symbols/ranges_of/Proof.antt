-- `ranges_of` meets its contract: the tests are those of the definition.
use borrow.Author.Rules.{rules}
use Rattle.replay_all.proofs.Spans.{ranges_laws}
use Rattle.replay_all.proofs.symbols.ranges_of.Statement.{statement}
use Rattle.replay_all.proofs.symbols.ranges_of.Tie as tie

pub ranges_of_spec : {M : Type 1} → statement M
ranges_of_spec =
    tie.close
    (tie.spec (λ c. search ranges_laws) (λ c. search rules) (λ c κs. search rules) (λ c. search ranges_laws) (λ c κs. search rules)
    (λ c. search ranges_laws))
