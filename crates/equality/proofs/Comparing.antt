-- The verdict on the determinizations of two sheets. Assumes nothing.
use Rattle.std.proofs.Common.{ℕ, ◌≤◌, ◌<◌, List, ◌≡◌, refl, sym, subst, ◌∙◌, rules, lt-ltb, le-ltb, length, take, length-take-le, Result, Ok, Err}
use Rattle.refusal.specs.declared.InputRefusal.{InputRefusal}
use Rattle.refusal.specs.declared.StateRefusal.{StateRefusal}
use Rattle.refusal.specs.declared.StateRefusal.TheVariants.{OutputLength}
use Rattle.refusal.specs.declared.Refusal.{Refusal}
use Rattle.refusal.specs.declared.Refusal.TheVariants.{Input, State}
use Rattle.refusal.specs.Answer.{Answer, refused}
use Rattle.refusal.specs.Number.{state_number, number_of}
use Rattle.sheets.specs.Checked.{checked_number}
use Rattle.sheets.specs.Fault.{fault}
use Rattle.sheets.specs.Sheet.{read}
use Rattle.sheets.proofs.Accepted.{check_accepted}
use Rattle.sheets.proofs.Checking.{sheet_passed, sheet_refused}
use Rattle.determinizations.specs.Two.{Two}
use Rattle.determinizations.specs.Determinizations.{determinized}
use Rattle.determinizations.specs.inner.Sheets.{two_of, FrontsDeterminized, BothDeterminized}
use Rattle.equality.specs.declared.Verdict.{Verdict}
use Rattle.equality.specs.declared.Verdict.TheVariants.{Refused}
use Rattle.equality.specs.Verdict.{Decided}
use Rattle.equality.specs.Equality.{equality_answer, Judged}
use Rattle.equality.specs.inner.Code.{WalkInput}

judged_refused : (o : List ℕ) (r : Refusal) → Judged (refused (number_of r)) o o (Refused r)
unfolding Judged
judged_refused o r = (refl, refl)

-- the answer of `determinize_both`, with the outputs p and q afterwards
module _ (lower upper : ℕ) (a b p q : List ℕ) (r : Result (ℕ × ℕ) StateRefusal) (is-r : BothDeterminized lower upper (read a) (read b) p q r) where
  pub both_refused : (k : StateRefusal) → r ≡ Err k → (o : List ℕ) → Judged (determinized lower upper (read a) (read b)) o o (Refused (State k))
  both_refused k e o =
      let d : determinized lower upper (read a) (read b) ≡ refused (state_number k) = subst (BothDeterminized lower upper (read a) (read b) p q) e is-r in
      subst (λ (x : Answer Two). Judged x o o (Refused (State k))) (sym d) (judged_refused o (State k))

  module _ (m n : ℕ) (e : r ≡ Ok (m, n)) where
    fronts : FrontsDeterminized lower upper (read a) (read b) p q m n
    fronts = subst (BothDeterminized lower upper (read a) (read b) p q) e is-r

    pub first_within : m ≤ length p
    first_within = fronts.first_in

    pub second_within : n ≤ length q
    second_within = fronts.second_in

    pub first_count : m ≡ length (take m p)
    first_count = sym (length-take-le m p first_within)

    pub second_count : n ≡ length (take n q)
    second_count = sym (length-take-le n q second_within)

    pub both_walkable : (o : List ℕ) → 510 ≤ length o → WalkInput (take m p) (take n q) lower upper o
    both_walkable o room = record { sheets = fronts.sheets; room = room }

    pub both_judged : (o o' : List ℕ) (v : Verdict) → Decided (two_of (take m p) (take n q) lower upper) o o' v → Judged (determinized lower upper (read a) (read b)) o o' v
    unfolding Judged
    both_judged o o' v h = subst (λ (x : Answer Two). Judged x o o' v) (sym fronts.are) h

pub ruleset determinized_laws = (both_refused, first_within, second_within, first_count, second_count, both_walkable, both_judged, rules)

module _ (lower upper : ℕ) (a b o : List ℕ) where
  pub word_short : length o < 510 → Judged (equality_answer lower upper a b o) o o (Refused (State OutputLength))
  unfolding equality_answer
  word_short h = subst (λ (x : Answer Two). Judged x o o (Refused (State OutputLength))) (sym (rw (lt-ltb (length o) 510 h) refl)) (judged_refused o _)

  module _ (room : 510 ≤ length o) (r : Result (Unit {0}) InputRefusal) (is-r : checked_number r ≡ fault a) where
    pub first_faulty : (i : InputRefusal) → r ≡ Err i → Judged (equality_answer lower upper a b o) o o (Refused (Input i))
    unfolding equality_answer
    first_faulty i e = subst (λ (x : Answer Two). Judged x o o (Refused (Input i))) (sym (rw (le-ltb (length o) 510 room) (sheet_refused a _ r is-r i e))) (judged_refused o _)

    module _ (p : r ≡ Ok tt) (q : Result (Unit {0}) InputRefusal) (is-q : checked_number q ≡ fault b) where
      pub second_faulty : (i : InputRefusal) → q ≡ Err i → Judged (equality_answer lower upper a b o) o o (Refused (Input i))
      unfolding equality_answer
      second_faulty i e = subst (λ (x : Answer Two). Judged x o o (Refused (Input i))) (sym (rw (le-ltb (length o) 510 room) (sheet_passed a _ r is-r p ∙ sheet_refused b _ q is-q i e))) (judged_refused o _)

      pub both_passed : q ≡ Ok tt → (o' : List ℕ) (v : Verdict) → Judged (determinized lower upper (read a) (read b)) o o' v → Judged (equality_answer lower upper a b o) o o' v
      unfolding equality_answer
      both_passed e o' v h = subst (λ (x : Answer Two). Judged x o o' v) (sym (rw (le-ltb (length o) 510 room) (sheet_passed a _ r is-r p ∙ sheet_passed b _ q is-q e))) h

pub ruleset comparing = (word_short, first_faulty, second_faulty, both_passed, check_accepted, rules)
