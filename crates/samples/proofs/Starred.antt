-- The starred samples of document 01, shown of the definitions as one conjunction.
use Prim.Native.Nat.{ℕ, ◌≤◌}
use mathlib.Core.Bool.{true, false}
use mathlib.Core.List.{List, [], ◌∷◌, ◌++◌}
use Rattle.std.proofs.Common.{Some}
use mathlib.Core.Path.{◌≡◌, refl}
use lib.ListN.{length, take}
use Rattle.lists.specs.Lists.{any, filter, tabulate}
use Rattle.automata.specs.Automaton.{Accepts, holds}
use Rattle.automata.specs.Records.{read_records}
use Rattle.automata.specs.WellFormed.{last_symbol}
use Rattle.determinize.specs.Partition.{part_of, partition}
use Rattle.determinize.specs.Determinize.{determinize}
use Rattle.determinizations.specs.Two.{total_size}
use Rattle.ranges.specs.Span.{intersect_ranges, overlaps_from, overlapping}
use Rattle.ranges.specs.Cuts.{nearer, next_cut, spans, cut_all}
use Rattle.ranges.specs.Missing.{covered, missing}
use Rattle.dsu.specs.Classes.{Classes}
use Rattle.equality.specs.Equality.{equality_answer, Judged}
use Rattle.equality.specs.Forced.{Forced}
use Rattle.equality.specs.declared.Verdict.{Verdict}
use Rattle.equality.specs.declared.Verdict.TheVariants.{Same, Different}
use Rattle.refusal.specs.Answer.{given}
use Rattle.sets.specs.Sets.{has, pick_from}
use Rattle.sets.specs.Closure.{through, closed}
use Rattle.sheets.specs.Checked.{sheet_first}
use Rattle.sheets.specs.Fault.{is_bad, record_fault, records_fault, transitions_fault, states_fault, fault}
use Rattle.sheets.specs.Sheet.{read, write}
use Rattle.totality.specs.Totality.{complemented}
use Rattle.words.specs.Acceptance.{accepts_words_answer}
use Rattle.words.specs.Simulation.{is_epsilon, epsilon_row, closures, closure, outgoing, step, start_set, simulate, least, kind_of, kind}
use Rattle.samples.proofs.Patterns.{determinized}
use Rattle.samples.specs.Samples.{range_transition, A, B, C, O, DA, DB, both_determinized, span, symbol_part}
use Rattle.samples.proofs.Lines.{may_print_same_4, may_print_differ_9, prints_same_4, prints_differ_9}
use Rattle.samples.proofs.Overlap.{overlap_5}
use Rattle.samples.proofs.Runs.{accepts_9, rejects_10, rejects_empty, overlap_accepts_5, complement_accepts_5}
use Rattle.samples.proofs.Three.{three}
use Rattle.samples.proofs.Verdicts.{same_4, differ_9}
use Rattle.syntax.specs.Examples.{text_a, text_b, text_c}
use Rattle.verdict_line.specs.Line.{VerdictLine, same_line, differ_line}
use Rattle.verdict_line.specs.Texts.{verdict_answer}

pub starred :
    -- holes of nothing, and of (5, 4294967295)
    (missing 0 last_symbol [] ≡ span 0 4294967295 ∷ [])
    × (missing 0 last_symbol (range_transition 0 5 4294967295 0 ∷ []) ≡ span 0 4 ∷ [])
    -- overlaps, and where two ranges meet
    × (overlapping (range_transition 0 0 5 0 ∷ range_transition 0 5 9 0 ∷ []) ≡ true)
    × (overlapping (range_transition 0 0 4 0 ∷ range_transition 0 5 9 0 ∷ []) ≡ false)
    × (intersect_ranges (span 0 5) (span 5 9) ≡ Some (span 5 5))
    -- parts
    × (partition 3 0 last_symbol (range_transition 0 0 5 1 ∷ range_transition 0 3 9 2 ∷ []) ≡ symbol_part 0 2 (1 ∷ []) ∷ symbol_part 3 5 (1 ∷ 2 ∷ []) ∷ symbol_part 6 9 (2 ∷ []) ∷ [])
    -- A accepts the word 9, not 10, not the empty word
    × (accepts_words_answer A (9 ∷ []) ≡ given 1)
    × (accepts_words_answer A (10 ∷ []) ≡ given 0)
    × (accepts_words_answer A [] ≡ given 0)
    -- and the same by runs
    × Accepts (read A) (9 ∷ [])
    × (Accepts (read A) (10 ∷ []) → ⊥)
    × (Accepts (read A) [] → ⊥)
    -- A determinized: 3 states, 4 transitions
    × (determinize 0 last_symbol (read A) ≡ given DA)
    × (DA.size ≡ 3)
    × (length DA.transitions ≡ 4)
    -- an automaton with an overlap and its complement both accept 5
    × (accepts_words_answer O (5 ∷ []) ≡ given 1)
    × (accepts_words_answer (write (complemented 0 last_symbol (read O))) (5 ∷ []) ≡ given 1)
    -- and the same by runs
    × Accepts (read O) (5 ∷ [])
    × Accepts (complemented 0 last_symbol (read O)) (5 ∷ [])
    -- B determinized: 4 states; with the 3 of A determinized they are in 3 classes
    × (determinize 0 last_symbol (read B) ≡ given DB)
    × (DB.size ≡ 4)
    × Classes (Forced both_determinized) (total_size both_determinized) 3
    -- the program `verdict` may print `same 4` for the texts of A and B, and `differ 9` for those of A and C
    × VerdictLine (verdict_answer 0 last_symbol (text_a ++ 32 ∷ text_b)) (same_line 4)
    × VerdictLine (verdict_answer 0 last_symbol (text_a ++ 32 ∷ text_c)) (differ_line (9 ∷ []))
    -- A and B are the same with 4 joins, whatever buffer is lent; A and C differ, and the word is 9
    × ((o o' : List ℕ) (r : Verdict) → 510 ≤ length o → Judged (equality_answer 0 last_symbol A B o) o o' r → r ≡ Same 4)
    × ((o o' : List ℕ) (r : Verdict) → 510 ≤ length o → Judged (equality_answer 0 last_symbol A C o) o o' r → (r ≡ Different 1) × (take 1 o' ≡ 9 ∷ []))
    -- the program `verdict` prints `same 4` for the texts of A and B with a blank between, and `differ 9` for those of A and C
    × ((bytes : List ℕ) → VerdictLine (verdict_answer 0 last_symbol (text_a ++ 32 ∷ text_b)) bytes → bytes ≡ same_line 4)
    × ((bytes : List ℕ) → VerdictLine (verdict_answer 0 last_symbol (text_a ++ 32 ∷ text_c)) bytes → bytes ≡ differ_line (9 ∷ []))
unfolding any filter tabulate holds read_records has pick_from through closed is_epsilon epsilon_row closures closure outgoing step start_set simulate least kind_of kind nearer next_cut spans cut_all covered missing intersect_ranges overlaps_from overlapping part_of partition is_bad record_fault records_fault transitions_fault states_fault fault sheet_first accepts_words_answer
starred = (
  refl,
  refl,
  refl,
  refl,
  refl,
  refl,
  refl,
  refl,
  refl,
  accepts_9,
  rejects_10,
  rejects_empty,
  determinized.0,
  refl,
  refl,
  overlap_5.0,
  overlap_5.1,
  overlap_accepts_5,
  complement_accepts_5,
  determinized.1,
  refl,
  three,
  may_print_same_4,
  may_print_differ_9,
  same_4,
  differ_9,
  prints_same_4,
  prints_differ_9,
)
