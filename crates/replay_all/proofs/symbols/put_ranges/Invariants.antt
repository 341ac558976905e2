-- What is stored, with the records of the ranges that are left, is all that is to be stored.
use Rattle.std.proofs.Common.{◌≡◌, ◌+◌, ◌*◌, length, drop}
use lib.Seq.{sets}
use Rattle.replay_all.specs.Spans.{records}
use Rattle.replay_all.proofs.symbols.put_ranges.Given as goal

abbrev pub invariant-loop-to : goal.invariant-loop-to
invariant-loop-to l = record {
  place : l.at ≡ l.first + 5 * l.to;
  stored : sets l.sheet l.at (records l.to (drop (2 * l.to) l.pairs)) ≡ sets l.initial.sheet l.first (records 0 l.pairs);
  count : l.at + length (records l.to (drop (2 * l.to) l.pairs)) ≡ l.first + length (records 0 l.pairs);
}
