-- `make_flipped` meets its contract: the words behind the accept words are those of the sheet.
use Rattle.totality.proofs.Made.{flipped_laws}
use Rattle.totality.proofs.make_flipped.Statement.{statement}
use Rattle.totality.proofs.make_flipped.Tie as tie

pub make_flipped_spec : {M : Type 1} → statement M
make_flipped_spec =
    tie.close
    (tie.spec (λ c. search flipped_laws) (λ c κs. search flipped_laws) (λ c. search flipped_laws) (λ c. search flipped_laws)
    (λ c. search flipped_laws) (λ c. search flipped_laws) (λ c. search flipped_laws) (λ c. search flipped_laws)
    (λ c κs. search flipped_laws) (λ c κs. search flipped_laws) (λ c. search flipped_laws) (λ c. search flipped_laws)
    (λ c. search flipped_laws))
