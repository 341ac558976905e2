-- `of_sheet` meets its contract: the check says that the sheet is accepted.
use Rattle.replay_all.proofs.Rows.{closure_laws}
use Rattle.replay_all.proofs.Sheets.{accepted_laws}
use Rattle.replay_all.proofs.closures.of_sheet.Statement.{statement}
use Rattle.replay_all.proofs.closures.of_sheet.Tie as tie

pub of_sheet_spec : {M : Type 1} → statement M
of_sheet_spec =
    tie.close
    (tie.spec (λ c κs. search accepted_laws) (λ c κs. search accepted_laws) (λ c. search accepted_laws) (λ c κs. search accepted_laws)
    (λ c. search accepted_laws) (λ c. search closure_laws) (λ c. search closure_laws))
