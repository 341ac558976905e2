-- `compare` meets its contract: the tables are made.
use mathlib.Core.Path.{refl}
use Rattle.subautomaton.proofs.Deciding.{tables_made, table_laws}
use Rattle.subautomaton.proofs.compare.Statement.{statement}
use Rattle.subautomaton.proofs.compare.Tie as tie

pub compare_spec : {M : Type 1} → statement M
compare_spec =
    tie.close
    (tie.spec (λ c. search table_laws) (λ c. search table_laws) (λ c. search table_laws) (λ c. search table_laws) (λ c. search table_laws)
    (λ c κs. search table_laws) (λ c. search table_laws) (λ c κs. search table_laws) (λ c. search table_laws) (λ c. search table_laws)
    (λ c κs. search table_laws) (λ c. search table_laws) (λ c. search table_laws) (λ c κs. search table_laws) (λ c. search table_laws)
    (λ c. search table_laws) (λ c. search table_laws)
    (λ c κs.
    tables_made _ _ _ _ _ _ _ _ _ _ c.requires c.run_starts.ensures refl c.enter_labels-k.ensures
    c.number_labels.ensures c.number_labels-2.ensures) (λ c. search table_laws))
