-- The check says whether the sheet of the ranges is accepted.
use Rattle.std.proofs.Common.{Ok, Err, refl}
use Rattle.replay_all.proofs.Sheets.{accepted_laws}
use Rattle.replay_all.proofs.Spans.{holes_refused, holes_told}
use Rattle.replay_all.proofs.symbols.holes.Goals as goal

pub holes_of-requires : goal.holes_of-requires
holes_of-requires c = search accepted_laws

pub returns-in-Ok : goal.returns-in-Ok
returns-in-Ok c = holes_told _ _ _ c.list-pairs.ensures _ c.in-Some.ensures.written (Ok tt) c.in-Ok.ensures refl _ c.holes_of.ensures

pub returns-in-Err : goal.returns-in-Err
returns-in-Err c = holes_refused _ _ _ c.list-pairs.ensures _ c.in-Some.ensures.written (Err c.in-Err.field-0) c.in-Err.ensures _ refl
