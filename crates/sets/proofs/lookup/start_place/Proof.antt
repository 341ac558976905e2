-- `start_place` meets its contract.
use borrow.Author.Rules.{rules}
use Rattle.sets.proofs.Places.{start_words}
use Rattle.sets.proofs.lookup.start_place.Statement.{statement}
use Rattle.sets.proofs.lookup.start_place.Tie as tie

pub start_place_spec : {M : Type 1} → statement M
start_place_spec =
    tie.close
    (tie.spec (λ c. search rules) (λ c. search rules) (λ c. search rules) (λ c. search rules) (λ c. search rules)
    (λ c. search rules) (λ c. search rules) (λ c. search rules) (λ c. search rules) (λ c. search rules)
    (λ c. search (start_words, rules)))
