-- The numbers of the records from the index on are left to write.
use Rattle.std.proofs.Common.{drop, map}
use Rattle.automata.specs.Records.{read_records}
use Rattle.automata.specs.inner.Chunks.{records_of}
use Rattle.stores.proofs.Left.{Left}
use Rattle.sweep.proofs.ordering.put_numbers.Given as goal

abbrev pub invariant-loop-r : goal.invariant-loop-r
invariant-loop-r l =
    Left l.initial.out 0 (map (λ v. v.kind) (read_records l.fn.records)) l.out l.end (map (λ v. v.kind) (records_of (drop l.r-index l.records)))
