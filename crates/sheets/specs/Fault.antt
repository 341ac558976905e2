-- The faults of a sheet (document 01, "The sheet"), in the order in which they are sought: the number of the first, or 0.
use Rattle.std.specs.Prelude.{ℕ, zero, suc, ◌*◌, Bool, true, not, cond, ◌&&◌, ◌||◌, List, [], ◌∷◌, length, take, drop, leb, ltb, eqb}
use Rattle.automata.specs.Automaton.{Transition}
use Rattle.automata.specs.Ordered.{less}
use Rattle.automata.specs.Records.{words_of, read_records}
use Rattle.automata.specs.WellFormed.{most_states, most_transitions, greatest_accept}

-- the first of two faults, where 0 is none
abbrev pub or_else : ℕ → ℕ → ℕ
or_else zero g = g
or_else (suc f) g = suc f

-- each accept word is in range
abbrev pub accept_words : List ℕ → Bool
accept_words [] = true
accept_words (x ∷ xs) = leb x greatest_accept && accept_words xs

-- kind over 1, a state index out of range, first above last, or an epsilon whose first or last is not 0
unfoldable pub is_bad : ℕ → Transition → Bool
is_bad n e =
    ltb 1 e.kind || leb n e.from || leb n e.to || ltb e.last e.first || (eqb e.kind 0 && not (eqb e.first 0 && eqb e.last 0))

-- the fault of a record in a sheet of n states, after the words of the record before it (none before the first)
unfoldable pub record_fault : ℕ → List ℕ → Transition → ℕ
record_fault n before e = cond (is_bad n e) 5 (cond (less before (words_of e)) 0 6)

-- each record, 5 before 6
unfoldable pub records_fault : ℕ → List ℕ → List Transition → ℕ
records_fault n before [] = 0
records_fault n before (e ∷ es) = or_else (record_fault n before e) (records_fault n (words_of e) es)

-- transition count missing (1) or wrong (3), total length (1), then the records
unfoldable pub transitions_fault : ℕ → List ℕ → ℕ
transitions_fault n [] = 1
transitions_fault n (m ∷ rest) =
    cond (ltb most_transitions m) 3 (cond (eqb (length rest) (5 * m)) (records_fault n [] (read_records rest)) 1)

-- state count missing (1) or wrong (3), accept words missing (1), start index (2), accept words (4), then the transitions
unfoldable pub states_fault : ℕ → List ℕ → ℕ
states_fault start [] = 1
states_fault start (n ∷ rest) =
    cond (eqb n 0 || ltb most_states n) 3
    (cond (ltb (length rest) n) 1
    (cond (leb n start) 2 (cond (accept_words (take n rest)) (transitions_fault n (drop n rest)) 4)))

-- start section under two words (1), then miscounted (2), then the states
unfoldable pub fault : List ℕ → ℕ
fault [] = 1
fault (count ∷ []) = 1
fault (count ∷ start ∷ rest) = cond (eqb count 1) (states_fault start rest) 2
