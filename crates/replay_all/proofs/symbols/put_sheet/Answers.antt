-- The sections are written one behind the other.
use Rattle.replay_all.proofs.Spans.{sheet_written, sheet_within}
use Rattle.replay_all.proofs.symbols.put_sheet.Goals as goal

pub returns-clause-within : goal.returns-clause-within
returns-clause-within c =
    sheet_within _ _ _ _ _ _ _ _ _ _ c.if-pairs-gt128.false c.put_start-accepts.ensures c.put_all-count.ensures c.put-first.ensures c.put_ranges.ensures

pub returns-clause-written : goal.returns-clause-written
returns-clause-written c =
    sheet_written _ _ _ _ _ _ _ _ _ _ c.if-pairs-gt128.false c.put_start-accepts.ensures c.put_all-count.ensures c.put-first.ensures c.put_ranges.ensures
