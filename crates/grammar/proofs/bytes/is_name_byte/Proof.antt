-- `is_name_byte` meets its contract: the bit is that of the byte.
use Rattle.grammar.proofs.Letters.{name_byte_laws}
use Rattle.grammar.proofs.bytes.is_name_byte.Statement.{statement}
use Rattle.grammar.proofs.bytes.is_name_byte.Tie as tie

pub is_name_byte_spec : {M : Type 1} → statement M
is_name_byte_spec =
    tie.close
    (tie.spec (λ c. search name_byte_laws) (λ c κs. search name_byte_laws) (λ c. search name_byte_laws) (λ c. search name_byte_laws) (λ c. search name_byte_laws))
