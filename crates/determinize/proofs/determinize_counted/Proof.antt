-- `determinize_counted` meets its contract.
use Rattle.std.proofs.Common.{rules}
use Rattle.words.proofs.Epsilons.{fresh_large}
use Rattle.determinize.proofs.determinize_counted.Statement.{statement}
use Rattle.determinize.proofs.determinize_counted.Tie as tie

pub determinize_counted_spec : {M : Type 1} → statement M
determinize_counted_spec =
    tie.close
    (tie.spec (λ c. search rules) (λ c. search rules) (λ c. search rules) (λ c κs. search (fresh_large, rules)) (λ c. search rules) (λ c. search rules)
    (λ c. search rules) (λ c κs. (record { tables = search rules; start = search rules; long = search rules }, search rules)) (λ c. search rules)
    (λ c. search rules) (λ c. search rules) (λ c. search rules) (λ c. search rules)
    (λ c κs. (record { tables = search rules; start = search rules; long = search rules }, search rules)) (λ c. search rules) (λ c. search rules))
