-- Each row is compared with the list at the next place.
use Rattle.replay_all.proofs.Rows.{rows_laws}
use Rattle.replay_all.proofs.closures.are_rows.Goals as goal

pub loop-p-init : goal.loop-p-init
loop-p-init c = search rows_laws

pub returns-then-case-next : goal.returns-then-case-next
returns-then-case-next c = search rows_laws

pub returns-then-not-is_row : goal.returns-then-not-is_row
returns-then-not-is_row c = search rows_laws

pub loop-p-preserved : goal.loop-p-preserved
loop-p-preserved c = search rows_laws

pub returns : goal.returns
returns c = search rows_laws
