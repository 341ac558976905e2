-- The samples A, B and C determinized, and that their sheets have no fault.
use mathlib.Core.List.{[], ◌∷◌}
use mathlib.Core.Path.{◌≡◌, refl}
use Rattle.lists.specs.Lists.{any, filter, tabulate}
use Rattle.automata.specs.Automaton.{Automaton, holds}
use Rattle.automata.specs.Records.{read_records}
use Rattle.automata.specs.WellFormed.{last_symbol}
use Rattle.determinize.specs.Partition.{part_of, partition}
use Rattle.determinize.specs.Determinize.{set_targets, nonempty_of, subsets, set_table, sets_and_sink, set_transition, set_transitions, set_transitions_from, subset_automaton, subsets_answer, determinize}
use Rattle.output.specs.Output.{transitions_first}
use Rattle.ranges.specs.Cuts.{nearer, next_cut, spans, cut_all}
use Rattle.ranges.specs.Missing.{covered}
use Rattle.refusal.specs.Answer.{given}
use Rattle.search.specs.Search
use Rattle.lists.specs.Index.{index, same}
use Rattle.sets.specs.Sets.{has, pick_from, is_empty}
use Rattle.sets.specs.Closure.{through, closed}
use Rattle.sheets.specs.Fault.{is_bad, record_fault, records_fault, transitions_fault, states_fault, fault}
use Rattle.sheets.specs.Sheet.{read}
use Rattle.words.specs.Simulation.{is_epsilon, epsilon_row, closures, closure, outgoing, step, start_set, least, kind_of}
use Rattle.samples.specs.Samples.{range_transition, A, B, C, DA, DB}

-- the determinization of C
abbrev pub DC : Automaton
DC = record {
  size = 3;
  start = 0;
  accept = 0 ∷ 1 ∷ 0 ∷ [];
  transitions = range_transition 0 0 8 1 ∷ range_transition 0 9 last_symbol 2 ∷ range_transition 1 0 last_symbol 2 ∷ range_transition 2 0 last_symbol 2 ∷ [];
}

pub determinized : (determinize 0 last_symbol (read A) ≡ given DA) × (determinize 0 last_symbol (read B) ≡ given DB) × (determinize 0 last_symbol (read C) ≡ given DC)
unfolding any filter tabulate holds read_records has pick_from same index through closed is_epsilon epsilon_row closures closure outgoing step start_set least kind_of nearer next_cut spans cut_all covered part_of partition set_targets is_empty nonempty_of subsets Search.add Search.meet Search.explore Search.table set_table sets_and_sink set_transition set_transitions set_transitions_from subset_automaton transitions_first subsets_answer determinize
determinized = (refl, refl, refl)

pub no_fault : (fault A ≡ 0) × (fault B ≡ 0) × (fault C ≡ 0)
unfolding read_records is_bad record_fault records_fault transitions_fault states_fault fault
no_fault = (refl, refl, refl)
