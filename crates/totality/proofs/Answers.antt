-- The answers of the calls, by the check of the inputs and by the limits of the result.
use Prim.Native.Nat.{ℕ, ◌≤◌, ◌<◌}
use mathlib.Core.Bool.{false}
use mathlib.Core.List.{List}
use mathlib.Core.Path.{◌≡◌, sym, ◌∙◌, ap}
use borrow.Author.Rules.{rules}
use borrow.Author.Tests.{lt-ltb, le-ltb}
use lib.ListN.{length}
use Rattle.std.specs.Prelude.{Result, Ok, Err}
use Rattle.labels.specs.Labels.{labels_fault, read_labels}
use Rattle.output.specs.declared.Made.{Made}
use Rattle.output.specs.Made.{output_of}
use Rattle.output.specs.Output.{Pattern, outputs, states_first, transitions_first}
use Rattle.refusal.specs.Answer.{refused, given}
use Rattle.refusal.specs.declared.Refusal.{Refusal}
use Rattle.sheets.specs.inner.Accepted.{Accepted}
use Rattle.sheets.specs.Sheet.{state_count, read}
use Rattle.totality.specs.Answers.{limited, total_pattern, complement_pattern, totalize_answer, complement_answer}
use Rattle.totality.specs.inner.Answers.{inputs_first, inputs_of, passed, total_pattern_flipped_if}
use Rattle.totality.proofs.Passing.{passed_inputs, refused_inputs}

-- the limits of a pattern
module _ (P : Pattern) where
  pub limited_states : 256 < P.automaton.size → limited P ≡ refused 21
  unfolding limited states_first transitions_first
  limited_states h = rw (lt-ltb 256 P.automaton.size h)

  pub limited_transitions : P.automaton.size ≤ 256 → 2048 < length P.automaton.transitions → limited P ≡ refused 22
  unfolding limited states_first transitions_first
  limited_transitions h l = rw (le-ltb 256 P.automaton.size h, lt-ltb 2048 (length P.automaton.transitions) l)

  pub limited_given : P.automaton.size ≤ 256 → length P.automaton.transitions ≤ 2048 → limited P ≡ given P
  unfolding limited states_first transitions_first
  limited_given h l = rw (le-ltb 256 P.automaton.size h, le-ltb 2048 (length P.automaton.transitions) l)

-- what the operations require after the check, and their answers
module _ (s b o l : List ℕ) (r : Result (Unit {0}) Refusal) (e : inputs_of r ≡ inputs_first s b o l passed) where
  pub inputs_accepted : r ≡ Ok tt → Accepted s × (labels_fault (state_count s) b ≡ 0) × (10500 ≤ length o) × (16642 ≤ length l)
  inputs_accepted h = let p = (passed_inputs s b o l passed r e h).0 in (p.sheet, p.label_list, p.words, p.bytes)

  module _ (lower upper : ℕ) where
    pub totalize_made : r ≡ Ok tt → (m : Result Made Refusal) (o' l' : List ℕ)
        → output_of m o' l' ≡ outputs o l (limited (total_pattern_flipped_if false lower upper (read s) (read_labels b)))
        → output_of m o' l' ≡ outputs o l (totalize_answer lower upper s b o l)
    unfolding totalize_answer inputs_first total_pattern total_pattern_flipped_if
    totalize_made h m o' l' f = f ∙ ap (outputs o l) (sym (passed_inputs s b o l (limited (total_pattern lower upper (read s) (read_labels b))) r e h).1)

    pub totalize_refused : (x : Refusal) → r ≡ Err x → output_of (Err x) o l ≡ outputs o l (totalize_answer lower upper s b o l)
    unfolding totalize_answer inputs_first outputs
    totalize_refused x h = ap (outputs o l) (sym (refused_inputs s b o l (limited (total_pattern lower upper (read s) (read_labels b))) r e x h))

    pub complement_made : r ≡ Ok tt → (m : Result Made Refusal) (o' l' : List ℕ)
        → output_of m o' l' ≡ outputs o l (limited (complement_pattern lower upper (read s) (read_labels b)))
        → output_of m o' l' ≡ outputs o l (complement_answer lower upper s b o l)
    unfolding complement_answer inputs_first
    complement_made h m o' l' f = f ∙ ap (outputs o l) (sym (passed_inputs s b o l (limited (complement_pattern lower upper (read s) (read_labels b))) r e h).1)

    pub complement_refused : (x : Refusal) → r ≡ Err x → output_of (Err x) o l ≡ outputs o l (complement_answer lower upper s b o l)
    unfolding complement_answer inputs_first outputs
    complement_refused x h = ap (outputs o l) (sym (refused_inputs s b o l (limited (complement_pattern lower upper (read s) (read_labels b))) r e x h))

pub ruleset totalize_laws = (inputs_accepted, totalize_made, totalize_refused, rules)

pub ruleset complemented_laws = (inputs_accepted, complement_made, complement_refused, rules)
