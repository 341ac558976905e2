-- `join_pair` meets its contract: the join says whether the pair is new.
use Rattle.pairs.proofs.Laws.{pair_had, pair_put}
use borrow.Author.Rules.{rules}
use Rattle.pairs.proofs.join_pair.Statement.{statement}
use Rattle.pairs.proofs.join_pair.Tie as tie

pub join_pair_spec : {M : Type 1} → statement M
join_pair_spec =
    tie.close
    (tie.spec (λ c. search rules) (λ c κs. search rules) (λ c. search rules) (λ c. search rules) (λ c. search rules)
    (λ c. search rules) (λ c. search rules) (λ c. search rules) (λ c. search rules) (λ c. search rules)
    (λ c. search (pair_put, rules)) (λ c. search (pair_had, rules)))
