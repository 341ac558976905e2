-- A sheet without a fault is what document 01 calls an accepted automaton: its sections fit their counts and its records pass. Theorems has the other
-- direction too (`accepted_exact`).
use Prim.Native.Nat.{ℕ, suc, ◌+◌, ◌*◌, ◌≤◌, ◌<◌}
use mathlib.Core.Path.{◌≡◌, sym, ap, ◌∙◌, subst}
use mathlib.Core.Bool.{true, ◌||◌}
use mathlib.Core.List.{List, [], ◌∷◌}
use native.Mathlib.Numerals.{add-one}
use native.Mathlib.Omega.{arith}
use lib.ListN.{length, get_or, take, drop, length-drop}
use lib.Seq.{drop-drop, get_or-drop}
use lib.Dec.{leb, ltb, eqb}
use borrow.Author.Tests.{ltb-false, leb-false, eqb-true, eqb-false}
use Rattle.std.specs.Prelude.{Result, Ok}
use Rattle.lists.proofs.Tests.{cond_no, cond_yes, or_false}
use Rattle.automata.specs.Records.{read_records}
use Rattle.refusal.specs.declared.InputRefusal.{InputRefusal}
use Rattle.sheets.specs.Checked.{checked_number}
use Rattle.sheets.specs.inner.Accepted.{Accepted}
use Rattle.sheets.specs.Fault.{accept_words, records_fault, transitions_fault, states_fault, fault}

-- the transitions of a sheet of n states without a fault
record Transitions (n : ℕ) (t : List ℕ) : Type 0 where
  pub few : get_or t 0 0 ≤ 2048
  pub whole : length t ≡ 5 * get_or t 0 0 + 1
  pub records : records_fault n [] (read_records (drop 1 t)) ≡ 0

transitions_pass : (n : ℕ) (t : List ℕ) → transitions_fault n t ≡ 0 → Transitions n t
unfolding transitions_fault
transitions_pass n [] e = absurd (omega arith)
transitions_pass n (m ∷ t) e =
    let p = cond_no (ltb 2048 m) 2 _ e in
    let q = cond_yes (eqb (length t) (5 * m)) 0 _ p.1 in
    record { few = ltb-false 2048 m p.0; whole = omega (arith, eqb-true (length t) (5 * m) q.0); records = q.1 }

-- the states of a sheet without a fault
record States (start : ℕ) (t : List ℕ) : Type 0 where
  pub some : 0 < get_or t 0 0
  pub few : get_or t 0 0 ≤ 256
  pub whole : get_or t 0 0 < length t
  pub below : start < get_or t 0 0
  pub accept_words_lem : accept_words (take (get_or t 0 0) (drop 1 t)) ≡ true
  pub transitions : transitions_fault (get_or t 0 0) (drop (get_or t 0 0 + 1) t) ≡ 0

states_pass : (start : ℕ) (t : List ℕ) → states_fault start t ≡ 0 → States start t
unfolding states_fault
states_pass start [] e = absurd (omega arith)
states_pass start (n ∷ t) e =
    let p = cond_no (eqb n 0 || ltb 256 n) 2 _ e in
    let o = or_false (eqb n 0) (ltb 256 n) p.0 in
    let q = cond_no (ltb (length t) n) 0 _ p.1 in
    let r = cond_no (leb n start) 1 _ q.1 in
    let v = cond_yes (accept_words (take n t)) 3 (transitions_fault n (drop n t)) r.1 in
    record {
      some = omega (arith, eqb-false n 0 o.0);
      few = ltb-false 256 n o.1;
      whole = omega (arith, ltb-false (length t) n q.0);
      below = leb-false n start r.0;
      accept_words_lem = v.0;
      transitions = rw add-one v.1;
    }

three : (n : ℕ) → n + 3 ≡ suc (suc (n + 1 + 0))
three n = omega arith

four : (n : ℕ) → n + 4 ≡ suc (suc (n + 1 + 1))
four n = omega arith

pub accepted : (s : List ℕ) → fault s ≡ 0 → Accepted s
unfolding fault
accepted [] e = absurd (omega arith)
accepted (a ∷ []) e = absurd (omega arith)
accepted (a ∷ b ∷ t) e =
    let p = cond_yes (eqb a 1) 1 (states_fault b t) e in
    let q = states_pass b t p.1 in
    let n : ℕ = get_or t 0 0 in
    let r = transitions_pass n (drop (n + 1) t) q.transitions in
    let m : get_or (a ∷ b ∷ t) (n + 3) 0 ≡ get_or (drop (n + 1) t) 0 0 =
    ap (λ (k : ℕ). get_or (a ∷ b ∷ t) k 0) (three n) ∙ sym (get_or-drop (n + 1) t 0 0) in
    record {
      one_start = eqb-true a 1 p.0;
      some_state = q.some;
      few_states = q.few;
      few_records = rw m r.few;
      start = q.below;
      whole = rw m (omega (arith, q.whole, r.whole, length-drop (n + 1) t));
      accept_words_lem = q.accept_words_lem;
      records = subst (λ (l : List ℕ). records_fault n [] (read_records l) ≡ 0)
          (drop-drop 1 (n + 1) t ∙ ap (λ (k : ℕ). drop k (a ∷ b ∷ t)) (sym (four n))) r.records;
    }

-- the answer `Ok` of the check
pub check_accepted : (r : Result (Unit {0}) InputRefusal) (s : List ℕ) → checked_number r ≡ fault s → r ≡ Ok tt → Accepted s
check_accepted r s e p = accepted s (sym e ∙ ap checked_number p)
