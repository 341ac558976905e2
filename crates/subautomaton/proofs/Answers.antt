-- The refusals in their order.
use Prim.Native.Nat.{ℕ, ◌<◌}
use mathlib.Core.Bool.{Bool}
use mathlib.Core.List.{List}
use mathlib.Core.Path.{◌≡◌, sym, ◌∙◌, ap}
use native.Mathlib.Omega.{arith}
use mir.Syntax.{w64}
use mir.Val.{Fits}
use borrow.Author.Rules.{rules}
use lib.ListN.{length, get_or}
use Rattle.std.specs.Prelude.{Result, Ok, Err}
use Rattle.output.specs.Output.{read_pattern}
use Rattle.labels.specs.Labels.{labels_fault}
use Rattle.labels.specs.Checked.{checked_number as labels_number}
use Rattle.output.proofs.Answers.{labels_accepted, labels_passed, labels_refused}
use Rattle.refusal.specs.Answer.{refused, given}
use Rattle.refusal.specs.Number.{input_number}
use Rattle.refusal.specs.declared.InputRefusal.{InputRefusal}
use Rattle.sheets.specs.inner.Accepted.{Accepted}
use Rattle.sheets.specs.Checked.{checked_number}
use Rattle.sheets.specs.Fault.{fault}
use Rattle.sheets.specs.Sheet.{state_count}
use Rattle.sheets.proofs.Accepted.{check_accepted}
use Rattle.sheets.proofs.Checking.{sheet_passed, sheet_refused}
use Rattle.subautomaton.specs.Inclusion.{is_subautomaton}
use Rattle.subautomaton.specs.inner.Tables.{LabelledSheets}
use Rattle.subautomaton.specs.Answer.{subautomaton_answer}

pub count_inside : (s : List ℕ) → Accepted s → 2 < length s
count_inside s a = omega (arith, a.whole)

pub count_fits : (s : List ℕ) → Accepted s → Fits w64 (get_or s 2 0)
count_fits s a = record { fits = omega (arith, a.few_states) }

module _ (a al b bl : List ℕ) (r : Result (Unit {0}) InputRefusal) (e : checked_number r ≡ fault a) where
  pub first_faulty : (i : InputRefusal) → r ≡ Err i → refused (input_number i) ≡ subautomaton_answer a al b bl
  unfolding subautomaton_answer
  first_faulty i h = sym (sheet_refused a _ r e i h)

  module _ (h : r ≡ Ok tt) (q : Result (Unit {0}) InputRefusal) (f : checked_number q ≡ fault b) where
    pub second_faulty : (i : InputRefusal) → q ≡ Err i → refused (input_number i) ≡ subautomaton_answer a al b bl
    unfolding subautomaton_answer
    second_faulty i g = sym (sheet_passed a _ r e h ∙ sheet_refused b _ q f i g)

    module _ (g : q ≡ Ok tt) (s : Result (Unit {0}) InputRefusal) (k : labels_number s ≡ labels_fault (state_count a) al) where
      pub first_labels_faulty : (i : InputRefusal) → s ≡ Err i → refused (input_number i) ≡ subautomaton_answer a al b bl
      unfolding subautomaton_answer
      first_labels_faulty i l = sym (sheet_passed a _ r e h ∙ sheet_passed b _ q f g ∙ labels_refused (state_count a) al _ s k i l)

      module _ (l : s ≡ Ok tt) (t : Result (Unit {0}) InputRefusal) (m : labels_number t ≡ labels_fault (state_count b) bl) where
        pub second_labels_faulty : (i : InputRefusal) → t ≡ Err i → refused (input_number i) ≡ subautomaton_answer a al b bl
        unfolding subautomaton_answer
        second_labels_faulty i n = sym (sheet_passed a _ r e h ∙ sheet_passed b _ q f g ∙ labels_passed (state_count a) al _ s k l ∙ labels_refused (state_count b) bl _ t m i n)

        module _ (n : t ≡ Ok tt) where
          pub inputs_passed : LabelledSheets a al b bl
          inputs_passed = record {
            first = check_accepted r a e h;
            second = check_accepted q b f g;
            first_labels = labels_accepted (state_count a) al s k l;
            second_labels = labels_accepted (state_count b) bl t m n;
          }

          pub answered : (x : Bool) → x ≡ is_subautomaton (read_pattern a al) (read_pattern b bl) → given x ≡ subautomaton_answer a al b bl
          unfolding subautomaton_answer
          answered x o = ap given o ∙ sym (sheet_passed a _ r e h ∙ sheet_passed b _ q f g ∙ labels_passed (state_count a) al _ s k l ∙ labels_passed (state_count b) bl _ t m n)

pub ruleset answer_laws = (first_faulty, second_faulty, first_labels_faulty, second_labels_faulty, answered, check_accepted, count_inside, count_fits, rules)
