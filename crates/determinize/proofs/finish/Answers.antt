-- The notes of a finished table stand for its automaton.
use Rattle.std.proofs.Common.{arith, rules}
use Rattle.determinize.proofs.Sheets.{accepted_over, accepted_many, accepted_part, accepted_canonical, accepted_few, accepted_room, accepted_given}
use Rattle.determinize.proofs.finish.Goals as goal

pub returns-in_default : goal.returns-in_default
returns-in_default c = search (accepted_over, rules)

pub returns-then-count-gt-MOST_TRANSITIONS : goal.returns-then-count-gt-MOST_TRANSITIONS
returns-then-count-gt-MOST_TRANSITIONS c = search (accepted_many, rules)

pub slice_bounds-write_sheet-end : goal.slice_bounds-write_sheet-end
slice_bounds-write_sheet-end c = search (accepted_part, rules)

pub write_sheet-words-requires : goal.write_sheet-words-requires
write_sheet-words-requires c = (search rules, search accepted_canonical, search accepted_few, search rules, search accepted_room, search rules)

pub overflow_add-result : goal.overflow_add-result
overflow_add-result c = omega (arith, accepted_few _ _ _ c.requires.0 _ _ _ c.requires.1 _ c.in-Some.is)

pub returns : goal.returns
returns c = search (accepted_given, rules)
