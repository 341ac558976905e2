-- The labels of the states before the index are in the table.
use Rattle.writer.proofs.Naming.{LabelsListed}
use Rattle.writer.proofs.names.are_names.Given as goal

abbrev pub invariant-loop-i : goal.invariant-loop-i
invariant-loop-i l = LabelsListed l.labels.bytes.now l.states l.t l.i
