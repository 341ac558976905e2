-- Cases of ranges: what two have in common, or whether the ranges of a state overlap and the holes that they leave.
use Rattle.std.specs.Prelude.{ℕ, suc, ◌+◌, ◌/◌, Bool, true, false, cond, Option, Some, None, List, [], ◌∷◌, ◌++◌, eqb, leb, ltb, length, get_or, replicate}
use Rattle.automata.specs.Automaton.{Transition, leaving, ranges_of}
use Rattle.labels.specs.Labels.{same_label}
use Rattle.ranges.specs.Missing.{missing}
use Rattle.ranges.specs.inner.Missing.{span_words}
use Rattle.ranges.specs.Span.{Span, intersect_ranges, overlapping}
use Rattle.replay.specs.Cases.{list_at}
use Rattle.sheets.specs.Fault.{fault}
use Rattle.sheets.specs.Sheet.{read}
use Rattle.replay_all.specs.Parts.{behind_list}

-- the list has first and last of the span, or nothing
abbrev pub is_ends : List ℕ → Option Span → Bool
is_ends l None = eqb (length l) 0
is_ends l (Some s) = cond (eqb (length l) 2) (cond (eqb (get_or l 0 0) s.first) (eqb (get_or l 1 0) s.last) false) false

-- behind the first word first and last of two ranges, then those of their common symbols as a list
unfoldable pub common_case : List ℕ → Bool
common_case s =
    cond (ltb (length s) 5) false
    (cond (eqb (behind_list s 5) (length s))
    (is_ends (list_at s 5) (intersect_ranges (record { first = get_or s 1 0; last = get_or s 2 0 }) (record { first = get_or s 3 0; last = get_or s 4 0 })))
    false)

-- the words of the records of ranges from state 0, given by first and last in turn, to the states from `to` on
unfoldable pub records : ℕ → List ℕ → List ℕ
records to [] = []
records to (first ∷ []) = []
records to (first ∷ last ∷ rest) = 0 ∷ 1 ∷ first ∷ last ∷ to ∷ records (suc to) rest

-- a sheet of 64 states with these ranges, if there are at most 64
unfoldable pub range_sheet : List ℕ → List ℕ
range_sheet ps = cond (ltb 128 (length ps)) [] (1 ∷ 0 ∷ 64 ∷ (replicate 64 0 ++ (length ps / 2 ∷ records 0 ps)))

-- the word is 1 for yes or 0 for no
abbrev pub is_bit : ℕ → Bool → Bool
is_bit x true = eqb x 1
is_bit x false = eqb x 0

-- the list has first and last of the spans, of which there are at most 2,049
unfoldable pub are_spans : List ℕ → List Span → Bool
are_spans l hs = cond (ltb 2049 (length hs)) false (same_label l (span_words hs))

-- whether the ranges overlap stands at the place, then the holes that they leave as a list, and nothing behind
unfoldable pub is_holes : List ℕ → ℕ → List Transition → Bool
is_holes s at es =
    cond (leb (length s) at) false
    (cond (eqb (behind_list s (at + 1)) (length s))
    (cond (is_bit (get_or s at 0) (overlapping es)) (are_spans (list_at s (at + 1)) (missing 0 4294967295 es)) false)
    false)

-- behind the first word a list of ranges, then what they give as the ranges of one state
unfoldable pub holes_case : List ℕ → Bool
holes_case s =
    cond (eqb (fault (range_sheet (list_at s 1))) 0)
    (is_holes s (behind_list s 1) (ranges_of (leaving (read (range_sheet (list_at s 1))) 0)))
    false

-- a first word of 0 says that the ranges of a state follow
unfoldable pub ranges_case : List ℕ → Bool
ranges_case s = cond (eqb (length s) 0) false (cond (eqb (get_or s 0 0) 0) (holes_case s) (common_case s))
