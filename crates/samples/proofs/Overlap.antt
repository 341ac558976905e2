-- The sample of document 01 on complements: an automaton with an overlap, and its complement, both accept 5.
use mathlib.Core.List.{[], ◌∷◌, flat_map}
use mathlib.Core.Path.{◌≡◌, refl}
use Rattle.lists.specs.Lists.{any, filter, tabulate}
use Rattle.automata.specs.Automaton.{holds, leaving, ranges_of, states, has_epsilon}
use Rattle.automata.specs.Ordered.{in_order, insert}
use Rattle.automata.specs.Records.{read_records, write_records}
use Rattle.automata.specs.WellFormed.{last_symbol}
use Rattle.nondeterminism.specs.Nondeterminism.{holes_of, is_nfa_at, is_nfa_in, is_nfa}
use Rattle.ranges.specs.Span.{overlaps_from, overlapping}
use Rattle.ranges.specs.Cuts.{nearer, next_cut, spans, cut_all}
use Rattle.ranges.specs.Missing.{covered, missing}
use Rattle.refusal.specs.Answer.{given}
use Rattle.sets.specs.Sets.{has, pick_from}
use Rattle.sets.specs.Closure.{through, closed}
use Rattle.sheets.specs.Checked.{sheet_first}
use Rattle.sheets.specs.Fault.{is_bad, record_fault, records_fault, transitions_fault, states_fault, fault}
use Rattle.sheets.specs.Sheet.{read, write}
use Rattle.totality.specs.Totality.{filled, filled_in, totalized, flipped, complemented}
use Rattle.words.specs.Acceptance.{accepts_words_answer}
use Rattle.words.specs.Simulation.{is_epsilon, epsilon_row, closures, closure, outgoing, step, start_set, simulate, least, kind_of, kind}
use Rattle.samples.specs.Samples.{O}

pub overlap_5 : (accepts_words_answer O (5 ∷ []) ≡ given 1) × (accepts_words_answer (write (complemented 0 last_symbol (read O))) (5 ∷ []) ≡ given 1)
unfolding any filter tabulate flat_map holds leaving ranges_of in_order insert read_records write_records has pick_from through closed is_epsilon epsilon_row closures closure outgoing step start_set simulate least kind_of kind nearer next_cut spans cut_all covered missing overlaps_from overlapping is_bad record_fault records_fault transitions_fault states_fault fault sheet_first accepts_words_answer states holes_of has_epsilon is_nfa_at is_nfa_in is_nfa filled filled_in totalized flipped complemented
overlap_5 = (refl, refl)
