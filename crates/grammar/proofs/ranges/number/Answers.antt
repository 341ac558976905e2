-- The number ends at the first other byte, or where the text ends; it is refused where it is too large.
use Rattle.grammar.proofs.Digits.{number_laws}
use Rattle.grammar.proofs.ranges.number.Goals as goal

pub returns-then-not-is_digit : goal.returns-then-not-is_digit
returns-then-not-is_digit c = search number_laws

pub returns-then-too_large : goal.returns-then-too_large
returns-then-too_large c = search number_laws

pub loop-at-preserved : goal.loop-at-preserved
loop-at-preserved c = search number_laws

pub returns : goal.returns
returns c = search number_laws
