-- `are_holes` meets its contract: the holes stand at the front of the memory.
use borrow.Author.Rules.{rules}
use Rattle.replay_all.proofs.Spans.{span_laws}
use Rattle.replay_all.proofs.symbols.are_holes.Statement.{statement}
use Rattle.replay_all.proofs.symbols.are_holes.Tie as tie

pub are_holes_spec : {M : Type 1} → statement M
are_holes_spec =
    tie.close
    (tie.spec (λ c. search rules) (λ c κs. search rules) (λ c. search span_laws) (λ c. search rules) (λ c. search rules) (λ c. search rules)
    (λ c. search rules) (λ c κs. search rules) (λ c. search span_laws))
