-- The digits from the start to the place write the number.
use Rattle.std.proofs.Common.{◌≡◌, ◌+◌, ◌^◌, ◌<◌, ◌≤◌, max, length, drop}
use Rattle.decimal.specs.Decimal.{is_digit}
use Rattle.grammar.specs.Grammar.{run}
use Rattle.grammar.proofs.Digits.{written}
use Rattle.grammar.proofs.ranges.number.Given as goal

abbrev pub invariant-loop-at : goal.invariant-loop-at
invariant-loop-at l =
    (l.at ≤ max l.start (length l.text)) × (l.v < 2 ^ 32)
    × (l.start + run is_digit (drop l.start l.text) ≡ l.at + run is_digit (drop l.at l.text)) × (written l.text l.start 0 ≡ written l.text l.at l.v)
