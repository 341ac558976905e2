-- The laws by which `determinize` is proved: its answers with both outputs.
use Rattle.std.proofs.Common.{◌≡◌, ℕ, ◌≤◌, Bool, true, false, ◌||◌, ltb, List, length, sym, refl, ap, ◌∙◌, subst, arith, rules, Result, Ok, Err}
use Rattle.stores.specs.Written.{Written}
use Rattle.automata.specs.Automaton.{Automaton}
use Rattle.labels.specs.Forms.{numbered_labels}
use Rattle.labels.specs.Labels.{write_labels}
use Rattle.output.specs.Made.{output_of}
use Rattle.output.specs.Output.{outputs}
use Rattle.output.proofs.Answers.{made_given, room_lacking, room_enough, room_words, room_bytes}
use Rattle.refusal.specs.Answer.{Answer, refused, given}
use Rattle.refusal.specs.Number.{state_number}
use Rattle.refusal.specs.declared.InputRefusal.{InputRefusal}
use Rattle.refusal.specs.declared.StateRefusal.{StateRefusal}
use Rattle.refusal.specs.declared.StateRefusal.TheVariants.{OutputLength}
use Rattle.refusal.specs.declared.Refusal.TheVariants.{Input, State}
use Rattle.sheets.specs.Checked.{checked_number}
use Rattle.sheets.specs.Fault.{fault}
use Rattle.sheets.specs.Sheet.{read, write}
use Rattle.sheets.proofs.Accepted.{accepted, check_accepted}
use Rattle.sheets.proofs.Checking.{sheet_passed, sheet_refused}
use Rattle.sheets.proofs.Meaning.{read_well}
use Rattle.determinize.specs.declared.Determinized.{Determinized}
use Rattle.determinize.specs.Determinize.{determinize}
use Rattle.determinize.specs.Sheets.{subset_pattern, determinize_answer}
use Rattle.determinize.specs.inner.Sheets.{SheetSize, sheet_output, determinized_of}
use Rattle.determinize.proofs.Theorems.{determinize_fits}

module _ (s o l : List ℕ) (b : Bool) (f : b ≡ (ltb (length o) 10500 || ltb (length l) 16642)) where
  pub made_short : b ≡ true → output_of (Err (State OutputLength)) o l ≡ outputs o l (determinize_answer s o l)
  unfolding determinize_answer outputs
  made_short h = sym (ap (outputs o l) (room_lacking o l _ b f h))

  module _ (h : b ≡ false) (c : Result (Unit {0}) InputRefusal) (e : checked_number c ≡ fault s) where
    pub made_faulty : (i : InputRefusal) → c ≡ Err i → output_of (Err (Input i)) o l ≡ outputs o l (determinize_answer s o l)
    unfolding determinize_answer outputs
    made_faulty i q = sym (ap (outputs o l) (room_enough o l _ b f h ∙ sheet_refused s _ c e i q))

    module _ (g : c ≡ Ok tt) (d : Result Determinized StateRefusal) (o' : List ℕ) (k : determinized_of d o' ≡ sheet_output o (determinize 0 4294967295 (read s))) where
      answer : determinize_answer s o l ≡ subset_pattern (determinize 0 4294967295 (read s))
      unfolding determinize_answer
      answer = room_enough o l _ b f h ∙ sheet_passed s _ c e g

      pub made_refused : (q : StateRefusal) → d ≡ Err q → output_of (Err (State q)) o' l ≡ outputs o l (determinize_answer s o l)
      unfolding sheet_output subset_pattern outputs
      made_refused q z = go (determinize 0 4294967295 (read s)) (ap (λ x. determinized_of x o') (sym z) ∙ k) ∙ ap (outputs o l) (sym answer)
        where
          go : (a : Answer Automaton) → determinized_of (Err q) o' ≡ sheet_output o a → output_of (Err (State q)) o' l ≡ outputs o l (subset_pattern a)
          go (refused n) y =
              let u = ap (λ x. x.answer) y in
              let v : state_number q ≡ n = cc in
              let w : o' ≡ o = ap (λ x. x.memory) y in
              rw (v, w)
          go (given D) y = let u = ap (λ x. x.answer) y in cc

      module _ (x : Determinized) (z : d ≡ Ok x) where
        record Given : Type 0 where
          result : Automaton
          is : determinize 0 4294967295 (read s) ≡ given result
          states : x.states ≡ result.size
          written : Written o 0 (write result) o' x.words

        the_given : Given
        unfolding sheet_output
        the_given = go (determinize 0 4294967295 (read s)) refl (ap (λ x. determinized_of x o') (sym z) ∙ k)
          where
            go : (a : Answer Automaton) → determinize 0 4294967295 (read s) ≡ a → determinized_of (Ok x) o' ≡ sheet_output o a → Given
            go (refused m) i y = let u = ap (λ x. x.answer) y in cc
            go (given D) i y =
                let u = ap (λ x. x.answer) y in
                let v : ◌≡◌ {A = SheetSize} (record { words = x.words; states = x.states }) (record { words = length (write D); states = D.size }) = cc in
                record {
                  result = D;
                  is = i;
                  states = ap (λ x. x.states) v;
                  written = record { stored = ap (λ x. x.memory) y; behind = ap (λ x. x.words) v ∙ omega arith };
                }

        pub made_few : x.states ≤ 256
        made_few =
            let r = the_given in
            let t = determinize_fits 0 4294967295 (read s) (read_well s (accepted s (sym e ∙ ap checked_number g))).states r.result r.is in
            omega (arith, r.states, t.few_states)

        pub made_done : (l' : List ℕ) (m : ℕ) → Written l 0 (write_labels (numbered_labels x.states)) l' m → output_of (Ok (record { words = x.words; bytes = m })) o' l' ≡ outputs o l (determinize_answer s o l)
        unfolding subset_pattern
        made_done l' m v =
            let r = the_given in
            let D = r.result in
            made_given o l o' l' x.words m (record { automaton = D; labels = numbered_labels D.size }) r.written (subst (λ i. Written l 0 (write_labels (numbered_labels i)) l' m) r.states v)
            ∙ ap (outputs o l) (sym (answer ∙ ap subset_pattern r.is))

pub ruleset made_laws = (made_short, made_faulty, made_refused, made_few, made_done, check_accepted, room_words, room_bytes, rules)
