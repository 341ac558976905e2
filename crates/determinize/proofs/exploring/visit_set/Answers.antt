-- The set is entry i of the table.
use Rattle.std.proofs.Common.{rules}
use Rattle.determinize.proofs.Queued.{row_canon, row_tried}
use Rattle.determinize.proofs.exploring.visit_set.Goals as goal

pub try_spans-requires-clause-tables : goal.try_spans-requires-clause-tables
try_spans-requires-clause-tables c =
    (c.requires.tables.0, record { canon = row_canon _ _ _ c.copy_row.ensures _ c.requires.tables.2 _ c.requires.tables.1.canonical; long = search rules })

pub returns-clause-visited : goal.returns-clause-visited
returns-clause-visited c = row_tried _ _ _ c.copy_row.ensures _ c.requires.tables.2 _ _ _ _ _ _ _ _ _ _ c.try_spans.ensures.visited
