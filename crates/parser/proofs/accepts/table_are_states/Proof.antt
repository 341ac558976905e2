-- `table_are_states` meets its contract: the names of the states mark the words of the table's names.
use Rattle.parser.proofs.Marking.{words_counted}
use Rattle.parser.proofs.Spelling.{table_laws}
use Rattle.parser.proofs.accepts.table_are_states.Statement.{statement}
use Rattle.parser.proofs.accepts.table_are_states.Tie as tie

pub table_are_states_spec : {M : Type 1} → statement M
table_are_states_spec =
    tie.close
    (tie.spec (λ c. search table_laws) (λ c κs. search table_laws) (λ c. search table_laws) (λ c κs. search table_laws) (λ c. search table_laws)
    (λ c. words_counted _ _ _ c.requires.0 _ (search table_laws)) (λ c κs. search table_laws) (λ c. search table_laws))
