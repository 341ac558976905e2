-- Marked series and their answers, computed.
use Prim.Native.Nat.{ℕ}
use mathlib.Core.List.{List, [], ◌∷◌}
use mathlib.Core.Path.{◌≡◌, refl}
use Rattle.automata.specs.Automaton.{holds}
use Rattle.automata.specs.Records.{read_records}
use Rattle.lists.specs.Lists.{any, filter, tabulate}
use Rattle.refusal.specs.Answer.{refused, given}
use Rattle.sets.specs.Closure.{through, closed}
use Rattle.sets.specs.Sets.{has, pick_from}
use Rattle.sheets.specs.Checked.{sheet_first}
use Rattle.sheets.specs.Fault.{is_bad, record_fault, records_fault, transitions_fault, states_fault, fault}
use Rattle.words.specs.Simulation.{is_epsilon, epsilon_row, closures, closure, outgoing, step, start_set, simulate, least, kind_of, kind}
use Rattle.marked_series.specs.Series.{whole_rings, accepts_series_answer}

-- an unfinished ring is left off, and nothing of a series of no rings
rings_examples :
    (whole_rings 0 (7 ∷ 8 ∷ 9 ∷ []) ≡ 7 ∷ 8 ∷ 9 ∷ [])
    × (whole_rings 1 (7 ∷ 8 ∷ 9 ∷ []) ≡ 7 ∷ 8 ∷ [])
    × (whole_rings 1 (7 ∷ []) ≡ [])
    × (whole_rings 0 [] ≡ [])
    × (whole_rings 1 [] ≡ [])
unfolding whole_rings
rings_examples = (refl, refl, refl, refl, refl)

-- document 01's A, which accepts just the words of one ring up to 9
abbrev A : List ℕ
A = 1 ∷ 0 ∷ 2 ∷ 0 ∷ 1 ∷ 1 ∷ 0 ∷ 1 ∷ 0 ∷ 9 ∷ 1 ∷ []

-- with either mark; a mark over 1 is refused behind the sheet's faults
answer_examples :
    (accepts_series_answer A (9 ∷ []) 0 ≡ given 1)
    × (accepts_series_answer A (9 ∷ []) 1 ≡ given 0)
    × (accepts_series_answer A (9 ∷ 10 ∷ []) 0 ≡ given 0)
    × (accepts_series_answer A (9 ∷ 10 ∷ []) 1 ≡ given 1)
    × (accepts_series_answer A [] 1 ≡ given 0)
    × (accepts_series_answer A (9 ∷ []) 2 ≡ refused 34)
    × (accepts_series_answer (1 ∷ 0 ∷ []) (9 ∷ []) 2 ≡ refused 1)
unfolding whole_rings accepts_series_answer any filter tabulate holds read_records has pick_from through closed is_epsilon epsilon_row closures closure
    outgoing step start_set simulate least kind_of kind is_bad record_fault records_fault transitions_fault states_fault fault sheet_first
answer_examples = (refl, refl, refl, refl, refl, refl, refl)
