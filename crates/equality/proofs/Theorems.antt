-- What is proved of exact equality, against Rabin and Scott's acceptance: demand 3 but for its products, which crate `crossed` adds.
--   equality_exact      the verdict on two sheets whose determinizations are given: same exactly where every word is accepted by both or by neither, else
--                       a word that exactly one accepts; the joins
--   equality_within     the same where both determinizations fit 256 states and 2,048 transitions
--   forced_smallest     the equivalence whose classes the joins count is the smallest such
--   classes_number      it has one number of classes
--   equality_20, equality_fault, equality_21, equality_22     each refusal of the call, exactly
--   equality_given      the call refuses nothing else
--   equality_kept       after a refusal the lent word is as it was
-- Assumes nothing.
use Rattle.std.proofs.Common.{ℕ, ◌≤◌, ◌<◌, List, ◌⊎◌, ◌↔◌, ◌≡◌, sym, subst, arith, le-ltb, length}
use Rattle.automata.specs.Automaton.{Automaton}
use Rattle.automata.specs.WellFormed.{WellFormed}
use Rattle.refusal.specs.Answer.{Answer, refused, given}
use Rattle.sheets.specs.Checked.{sheet_first}
use Rattle.sheets.specs.Fault.{fault}
use Rattle.sheets.specs.Sheet.{read}
use Rattle.sheets.proofs.Accepted.{accepted}
use Rattle.sheets.proofs.Meaning.{read_well}
use Rattle.determinize.specs.Determinize.{determinize}
use Rattle.determinize.specs.Reached.{MoreThan}
use Rattle.determinize.proofs.Theorems.{determinize_given}
use Rattle.determinizations.specs.Two.{Two, total_size}
use Rattle.determinizations.specs.Determinizations.{determinized, Overfull, Limits}
use Rattle.determinizations.proofs.Theorems.{determinized_both, determinized_parts, determinized_21, determinized_22}
use Rattle.dsu.specs.Classes.{Classes}
use Rattle.dsu.proofs.Classes.{classes_unique}
use Rattle.equality.specs.declared.Verdict.{Verdict}
use Rattle.equality.specs.Forced.{Forced, Smallest}
use Rattle.equality.specs.Equality.{word_size, equality_answer, Judged, Clear, verdict_number, Exact}
use Rattle.equality.proofs.Exact.{smallest_two, decided_exact}
use Rattle.equality.proofs.Refusals.{judged_number, judged_given, judged_kept, sheet_bounds, compared_number, compared_20, compared_fault, compared_given}

-- there is one number of classes
pub classes_number : (t : Two) (j k : ℕ) → Classes (Forced t) (total_size t) j → Classes (Forced t) (total_size t) k → j ≡ k
classes_number t j k c d = classes_unique c d

-- two accepted sheets
module _ (lower upper : ℕ) (a b : List ℕ) (first : fault a ≡ 0) (second : fault b ≡ 0) where
  well_a : WellFormed (read a)
  well_a = read_well a (accepted a first)

  well_b : WellFormed (read b)
  well_b = read_well b (accepted b second)

  -- of their determinizations t the equivalence `Forced` is the smallest that joins the starts and, with two states, their successors under each symbol
  pub forced_smallest : (t : Two) → determinized lower upper (read a) (read b) ≡ given t → Smallest t (Forced t)
  forced_smallest t e =
      let d = determinized_parts lower upper (read a) (read b) t e in
      subst (λ (u : Two). Smallest u (Forced u)) (sym d.are) (smallest_two lower upper (read a) (read b) well_a well_b t.one t.two d.first d.second)

  -- a buffer o of 510 words or more, and the buffer o' after the verdict r, which meets the contract of `equality`
  module _ (o o' : List ℕ) (r : Verdict) (room : word_size ≤ length o) (judged : Judged (equality_answer lower upper a b o) o o' r) where
    compared_both : (D E : Automaton) → determinize lower upper (read a) ≡ given D → determinize lower upper (read b) ≡ given E → equality_answer lower upper a b o ≡ given (record { one = D; two = E; lower = lower; upper = upper })
    unfolding equality_answer sheet_first
    compared_both D E d e = rw (le-ltb (length o) 510 room, first, second) (determinized_both lower upper (read a) (read b) D E d e)

    -- demand 3 of the verdict, where D and E are the determinizations
    pub equality_exact : (D E : Automaton) → determinize lower upper (read a) ≡ given D → determinize lower upper (read b) ≡ given E
        → Exact lower upper (read a) (read b) (record { one = D; two = E; lower = lower; upper = upper }) o o' r
    unfolding Judged
    equality_exact D E d e =
        decided_exact lower upper (read a) (read b) well_a well_b D E d e o o' r (subst (λ (x : Answer Two). Judged x o o' r) (compared_both D E d e) judged)

    -- the same where the determinizations are within the limits
    pub equality_within : Limits lower upper (read a) → Limits lower upper (read b)
        → (t : Two) × (determinized lower upper (read a) (read b) ≡ given t) × Exact lower upper (read a) (read b) t o o' r
    equality_within la lb =
        let d = determinize_given lower upper (read a) well_a.states la.0 la.1 in
        let e = determinize_given lower upper (read b) well_b.states lb.0 lb.1 in
        (record { one = d.0; two = e.0; lower = lower; upper = upper }, determinized_both lower upper (read a) (read b) d.0 e.0 d.1 e.1, equality_exact d.0 e.0 d.1 e.1)

-- any two lists of words and any buffer o, and the buffer o' after the verdict r, which meets the contract of `equality`
module _ (lower upper : ℕ) (a b o o' : List ℕ) (r : Verdict) (judged : Judged (equality_answer lower upper a b o) o o' r) where
  number : (n : ℕ) → (n ≡ 0 → ⊥) → (verdict_number r ≡ n) ↔ (equality_answer lower upper a b o ≡ refused n)
  number = judged_number o o' (equality_answer lower upper a b o) r judged

  -- 20: the buffer is too short
  pub equality_20 : (verdict_number r ≡ 20) ↔ (length o < word_size)
  equality_20 = let n = number 20 (λ z. omega arith) in let k = compared_20 lower upper a b o in (λ e. k.0 (n.0 e), λ h. n.1 (k.1 h))

  -- 1 to 6: a fault of the first sheet, or of the second where the first has none
  pub equality_fault : (n : ℕ) → 0 < n → n ≤ 6 → (verdict_number r ≡ n) ↔ ((word_size ≤ length o) × ((fault a ≡ n) ⊎ ((fault a ≡ 0) × (fault b ≡ n))))
  equality_fault n l m = let i = number n (λ z. omega arith) in let k = compared_fault lower upper a b o n l m in (λ e. k.0 (i.0 e), λ h. i.1 (k.1 h))

  -- 21: the first determinization has over 256 states, or it is within the limits and the second has
  pub equality_21 : (verdict_number r ≡ 21) ↔ (Clear a b o × (MoreThan 255 lower upper (read a) ⊎ (Limits lower upper (read a) × MoreThan 255 lower upper (read b))))
  equality_21 =
      let n = number 21 (λ z. omega arith) in
      let k = compared_number lower upper a b o 21 (omega arith) (λ z. omega arith) in (
        λ e. let (c, d) = k.0 (n.0 e) in (c, (determinized_21 lower upper (read a) (read b) (sheet_bounds a c.first) (sheet_bounds b c.second)).0 d),
        λ (c, m). n.1 (k.1 (c, (determinized_21 lower upper (read a) (read b) (sheet_bounds a c.first) (sheet_bounds b c.second)).1 m)),
      )

  -- 22: the first determinization has over 2,048 transitions, or it is within the limits and the second has
  pub equality_22 : (verdict_number r ≡ 22) ↔ (Clear a b o × (Overfull lower upper (read a) ⊎ (Limits lower upper (read a) × Overfull lower upper (read b))))
  equality_22 =
      let n = number 22 (λ z. omega arith) in
      let k = compared_number lower upper a b o 22 (omega arith) (λ z. omega arith) in (
        λ e. let (c, d) = k.0 (n.0 e) in (c, (determinized_22 lower upper (read a) (read b) (sheet_bounds a c.first) (sheet_bounds b c.second)).0 d),
        λ (c, m). n.1 (k.1 (c, (determinized_22 lower upper (read a) (read b) (sheet_bounds a c.first) (sheet_bounds b c.second)).1 m)),
      )

  -- nothing is refused exactly where none of these holds
  pub equality_given : (verdict_number r ≡ 0) ↔ (Clear a b o × Limits lower upper (read a) × Limits lower upper (read b))
  equality_given =
      let n = judged_given o o' (equality_answer lower upper a b o) r judged in
      let k = compared_given lower upper a b o in
      (λ e. k.0 (n.0 e), λ h. n.1 (k.1 h))

  -- after a refusal the buffer is as it was
  pub equality_kept : (verdict_number r ≡ 0 → ⊥) → o' ≡ o
  equality_kept = judged_kept o o' (equality_answer lower upper a b o) r judged
