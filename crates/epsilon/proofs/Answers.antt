-- The answers of epsilon elimination: the laws by which the functions that answer are proved.
use Rattle.std.proofs.Common.{Result, Ok, Err}
use Prim.Native.Nat.{ℕ, ◌-◌, ◌*◌, ◌/◌, ◌≤◌, ◌<◌}
use mathlib.Core.Bool.{Bool, true, false, ◌||◌}
use mathlib.Core.List.{List, flat_map}
use mathlib.Core.Path.{◌≡◌, sym, ◌∙◌, ap}
use native.Mathlib.Omega.{arith}
use borrow.Author.Rules.{rules}
use borrow.Author.Tests.{lt-ltb, le-ltb}
use lib.Dec.{ltb}
use lib.ListN.{length, take, drop}
use Rattle.stores.specs.Written.{Written}
use Rattle.stores.proofs.Written.{written_length}
use Rattle.automata.specs.Automaton.{states}
use Rattle.automata.specs.Ordered.{in_order}
use Rattle.labels.specs.Labels.{labels_fault, read_labels, write_labels, label_count}
use Rattle.labels.specs.inner.Places.{LabelList}
use Rattle.labels.proofs.Labels.{label_list, count_read}
use Rattle.output.specs.inner.Gathering.{Collected}
use Rattle.output.specs.Made.{output_of}
use Rattle.output.specs.Output as output
use Rattle.output.specs.Output.{Outputs, Pattern, outputs, labels_first, transitions_first}
use Rattle.output.proofs.Collecting.{small_memory, large_memory}
use Rattle.output.proofs.Answers.{made_given, made_refused, labels_accepted, labels_passed, labels_refused, room_lacking, room_enough, room_words, room_bytes}
use Rattle.refusal.specs.Answer.{Answer}
use Rattle.refusal.specs.Outcome.{Outcome}
use Rattle.refusal.specs.declared.InputRefusal.{InputRefusal}
use Rattle.refusal.specs.declared.Refusal.TheVariants.{Input, State}
use Rattle.refusal.specs.declared.StateRefusal.TheVariants.{OutputLength, Transitions}
use Rattle.sheets.specs.inner.Accepted.{Accepted}
use Rattle.sheets.specs.Checked.{checked_number}
use Rattle.sheets.specs.Fault.{fault}
use Rattle.sheets.specs.Sheet.{state_count, read, write}
use Rattle.sheets.proofs.Accepted.{check_accepted}
use Rattle.sheets.proofs.Checking.{sheet_passed, sheet_refused}
use Rattle.epsilon.specs.Eliminate.{closure_ranges, eliminated, eliminated_with, eliminate_answer}
use Rattle.epsilon.specs.inner.Tables.{TransitionsOf, EliminationInputs}
use Rattle.epsilon.proofs.Gathering.{tables_closures}

-- the transitions of all states are gathered
module _ (s buf : List ℕ) (end : ℕ) (t : Collected buf end (flat_map (closure_ranges (read s)) (states (state_count s)))) where
  pub too_many : length buf ≡ 11520 → 10240 < end → (o l : List ℕ) (ls : List (List ℕ)) → output_of (Err (State Transitions)) o l ≡ outputs o l (eliminated_with (read s) ls)
  unfolding eliminated_with transitions_first eliminated
  too_many n h o l ls =
      let k = t.over (omega arith) in
      made_refused o l (State Transitions) _ (rw (lt-ltb 2048 (length (in_order (flat_map (closure_ranges (read s)) (states (state_count s))))) (omega arith)))

  few : end ≤ length buf / 9 * 8 → TransitionsOf s (take (end - 0) (drop 0 buf))
  unfolding eliminated
  few h = record { few = omega (arith, (t.listed h).behind, t.memory.most); whole = (t.listed h).words }

  pub few_small : length buf ≡ 720 → end ≤ 640 → TransitionsOf s (take (end - 0) (drop 0 buf))
  few_small n h = few (omega arith)

  pub few_large : length buf ≡ 11520 → end ≤ 10240 → TransitionsOf s (take (end - 0) (drop 0 buf))
  few_large n h = few (omega arith)

pub ruleset memory_laws = (small_memory, large_memory, tables_closures, too_many, few_small, few_large, rules)

-- and written
pub all_written : (s recs : List ℕ) → TransitionsOf s recs → (o l o' l' : List ℕ) (w k : ℕ) (ls : List (List ℕ)) → Written o 0 (write (eliminated (read s))) o' w → Written l 0 (write_labels ls) l' k
    → output_of (Ok (record { words = w; bytes = k })) o' l' ≡ outputs o l (eliminated_with (read s) ls)
unfolding eliminated_with transitions_first
all_written s recs t o l o' l' w k ls p q =
    made_given o l o' l' w k (record { automaton = eliminated (read s); labels = ls }) p q
    ∙ ap (outputs o l) (sym (rw (le-ltb 2048 (length (eliminated (read s)).transitions) t.few)))

-- the labels that are kept
module _ (s b : List ℕ) (a : Accepted s) (h : labels_fault (state_count s) b ≡ 0) where
  pub kept_list : LabelList b
  kept_list = label_list (state_count s) b h

  pub kept_count : label_count b ≤ 256
  kept_count = omega (arith, count_read (state_count s) b h, a.few_states)

pub ruleset result_laws = (all_written, kept_list, kept_count, written_length, rules)

-- the check of the labels
module _ (n : ℕ) (b : List ℕ) (r : Result (Unit {0}) InputRefusal) (e : checked_number r ≡ labels_fault n b) (a : Answer Pattern) where
  pub labels_given : r ≡ Ok tt → (o l : List ℕ) (x : Outcome output.Lengths Outputs) → x ≡ outputs o l a → x ≡ outputs o l (labels_first n b a)
  labels_given h o l x p = p ∙ ap (outputs o l) (sym (labels_passed n b a r e h))

  pub labels_stopped : (i : InputRefusal) → r ≡ Err i → (o l : List ℕ) → output_of (Err (Input i)) o l ≡ outputs o l (labels_first n b a)
  labels_stopped i h o l = made_refused o l (Input i) _ (labels_refused n b a r e i h)

pub ruleset checked_laws = (labels_accepted, labels_given, labels_stopped, rules)

-- the room of the outputs, and the check of the sheet
pub sheet_ready : (o l s : List ℕ) (w : Bool) → w ≡ (ltb (length o) 10500 || ltb (length l) 16642) → w ≡ false → (r : Result (Unit {0}) InputRefusal)
    → checked_number r ≡ fault s → r ≡ Ok tt → EliminationInputs s o l
sheet_ready o l s w e h r f g = record { accepted = check_accepted r s f g; words = room_words o l w e h; bytes = room_bytes o l w e h }

module _ (o l s b : List ℕ) (w : Bool) (e : w ≡ (ltb (length o) 10500 || ltb (length l) 16642)) where
  pub room_stopped : w ≡ true → output_of (Err (State OutputLength)) o l ≡ outputs o l (eliminate_answer s b o l)
  unfolding eliminate_answer
  room_stopped h = made_refused o l (State OutputLength) _ (room_lacking o l _ w e h)

  module _ (h : w ≡ false) (r : Result (Unit {0}) InputRefusal) (f : checked_number r ≡ fault s) where
    pub sheet_stopped : (i : InputRefusal) → r ≡ Err i → output_of (Err (Input i)) o l ≡ outputs o l (eliminate_answer s b o l)
    unfolding eliminate_answer
    sheet_stopped i g = made_refused o l (Input i) _ (room_enough o l _ w e h ∙ sheet_refused s _ r f i g)

    pub sheet_given : r ≡ Ok tt → (x : Outcome output.Lengths Outputs)
        → x ≡ outputs o l (labels_first (state_count s) b (eliminated_with (read s) (read_labels b))) → x ≡ outputs o l (eliminate_answer s b o l)
    unfolding eliminate_answer
    sheet_given g x p = p ∙ ap (outputs o l) (sym (room_enough o l _ w e h ∙ sheet_passed s _ r f g))

pub ruleset eliminate_laws = (room_stopped, sheet_stopped, sheet_given, rules)
