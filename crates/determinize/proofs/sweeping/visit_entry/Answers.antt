-- The set is entry i of the table.
use Rattle.std.proofs.Common.{rules}
use Rattle.sweep.proofs.Begin.{tables_closed}
use Rattle.determinize.proofs.Queued.{row_canon, row_visited}
use Rattle.determinize.proofs.sweeping.visit_entry.Goals as goal

pub sweep_spans-requires-clause-closed : goal.sweep_spans-requires-clause-closed
sweep_spans-requires-clause-closed c =
    (tables_closed _ _ _ c.requires.tables.0, c.requires.tables.1, c.requires.tables.2, search rules)

pub returns-then-is_long-clause-visited : goal.returns-then-is_long-clause-visited
returns-then-is_long-clause-visited c = row_visited _ _ _ c.copy_row.ensures _ c.requires.table_and_notes.1 _ _ _ _ _ _ _ _ _ c.sweep_spans.ensures.visited

pub visit_spans-requires-clause-tables : goal.visit_spans-requires-clause-tables
visit_spans-requires-clause-tables c =
    (c.requires.tables.0, record { canon = row_canon _ _ _ c.copy_row.ensures _ c.requires.table_and_notes.1 _ c.requires.table_and_notes.0.canonical; long = search rules })

pub returns-clause-visited : goal.returns-clause-visited
returns-clause-visited c = row_visited _ _ _ c.copy_row.ensures _ c.requires.table_and_notes.1 _ _ _ _ _ _ _ _ _ c.visit_spans.ensures.visited
