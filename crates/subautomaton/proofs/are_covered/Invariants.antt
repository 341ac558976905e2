-- The records from the index on are left.
use Rattle.std.proofs.Common.{◌≡◌, drop}
use Rattle.lists.specs.Lists.{all}
use Rattle.automata.specs.Records.{read_records}
use Rattle.automata.specs.inner.Chunks.{records_of}
use Rattle.sheets.specs.Sheet.{read}
use Rattle.subautomaton.specs.inner.Tables.{fits_in}
use Rattle.subautomaton.proofs.are_covered.Given as goal

abbrev pub invariant-loop-d : goal.invariant-loop-d
invariant-loop-d l = all (fits_in (read l.b) l.ca l.cb) (read_records l.fn.records) ≡ all (fits_in (read l.b) l.ca l.cb) (records_of (drop l.d-index l.records))
