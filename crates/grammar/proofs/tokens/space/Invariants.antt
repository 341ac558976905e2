-- The bytes passed are space.
use Rattle.std.proofs.Common.{◌≡◌, ◌+◌, ◌≤◌, length, drop}
use Rattle.grammar.specs.Bytes.{is_space}
use Rattle.grammar.specs.Grammar.{run, space}
use Rattle.grammar.proofs.tokens.space.Given as goal

abbrev pub invariant-loop-at : goal.invariant-loop-at
invariant-loop-at l = (l.at ≤ length l.text) × (space l.text l.fn.c.at ≡ l.at + run is_space (drop l.at l.text))
