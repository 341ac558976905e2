-- The bytes passed are bytes of a name.
use Rattle.std.proofs.Common.{◌≡◌, ◌+◌, ◌≤◌, max, length, drop}
use Rattle.grammar.specs.Bytes.{is_name_byte}
use Rattle.grammar.specs.Grammar.{run}
use Rattle.grammar.proofs.tokens.name_end.Given as goal

abbrev pub invariant-loop-end : goal.invariant-loop-end
invariant-loop-end l = (l.end ≤ max l.at (length l.text)) × (l.at + run is_name_byte (drop l.at l.text) ≡ l.end + run is_name_byte (drop l.end l.text))
