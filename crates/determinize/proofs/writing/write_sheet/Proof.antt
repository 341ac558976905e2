-- `write_sheet` meets its contract: the sections one behind the other.
use Rattle.determinize.proofs.Sections.{sheet_laws}
use Rattle.determinize.proofs.writing.write_sheet.Statement.{statement}
use Rattle.determinize.proofs.writing.write_sheet.Tie as tie

pub write_sheet_spec : {M : Type 1} → statement M
write_sheet_spec =
    tie.close
    (tie.spec (λ c. search sheet_laws) (λ c. search sheet_laws) (λ c κs. search sheet_laws) (λ c κs. search sheet_laws)
    (λ c. search sheet_laws) (λ c κs. search sheet_laws) (λ c. search sheet_laws) (λ c κs. search sheet_laws) (λ c. search sheet_laws)
    (λ c. search sheet_laws))
