-- The part that is checked is the sheet.
use Rattle.std.proofs.Common.{◌∙◌}
use Rattle.limits.proofs.Sheets.{its_fault}
use Rattle.limits.proofs.fault.Goals as goal

pub returns-in-Ok : goal.returns-in-Ok
returns-in-Ok c =
    its_fault _ _ _ _ _ _ c.requires.0 c.requires.1 c.put_start.ensures.stored c.put_records-end.ensures.stored c.put_records-end.ensures.behind
    c.in-Ok.ensures

pub returns-in-Err : goal.returns-in-Err
returns-in-Err c =
    c.input_number.ensures
    ∙ its_fault _ _ _ _ _ _ c.requires.0 c.requires.1 c.put_start.ensures.stored c.put_records-end.ensures.stored c.put_records-end.ensures.behind
    c.in-Err.ensures
