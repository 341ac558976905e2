-- Exact equality of A with B, and of A with C: every verdict that meets the contract of `equality` is the one of document 01.
use Prim.Native.Nat.{ℕ, ◌≤◌}
use mathlib.Core.List.{List, [], ◌∷◌, head-eq_of_cons-eq}
use mathlib.Core.Logic.{inl, inr}
use mathlib.Core.Path.{◌≡◌, refl, sym, ap, ◌∙◌}
use native.Mathlib.Omega.{arith}
use lib.Dec.{lit≤}
use lib.ListN.{length, take}
use Rattle.automata.specs.Automaton.{none, more}
use Rattle.automata.specs.WellFormed.{last_symbol}
use Rattle.automata.specs.SameWords.{SameWords, ExactlyOne}
use Rattle.sheets.specs.Sheet.{read}
use Rattle.equality.specs.Equality.{equality_answer, Judged}
use Rattle.equality.specs.declared.Verdict.{Verdict}
use Rattle.equality.specs.declared.Verdict.TheVariants.{Same, Different}
use Rattle.equality.proofs.Theorems.{classes_number, equality_exact}
use Rattle.samples.proofs.Patterns.{determinized, no_fault, DC}
use Rattle.samples.specs.Samples.{A, B, C, DA, DB, both_determinized}
use Rattle.samples.proofs.Single.{a_single, b_single, c_single}
use Rattle.samples.proofs.Three.{three}

pub same_ab : SameWords 0 last_symbol (read A) (read B)
same_ab w v = (λ h. (b_single w).1 ((a_single w).0 h), λ h. (a_single w).1 ((b_single w).0 h))

-- 7 states in 3 classes: 4 joins
pub same_4 : (o o' : List ℕ) (r : Verdict) → 510 ≤ length o → Judged (equality_answer 0 last_symbol A B o) o o' r → r ≡ Same 4
same_4 o o' r room judged =
    let x = equality_exact 0 last_symbol A B no_fault.0 no_fault.1 o o' r room judged DA DB determinized.0 determinized.1 in
    let (j, is) = x.same.1 same_ab in
    let (k, counted, sum, kept) = x.joins j is in
    let number : k ≡ 3 = classes_number both_determinized k 3 counted three in
    let four : j ≡ 4 = omega arith in
    is ∙ ap Same four

-- the one word that tells A and C apart
pub only_nine : (w : List ℕ) → ExactlyOne (read A) (read C) w → w ≡ 9 ∷ []
only_nine w (inl h) =
    let (x, e, l) = (a_single w).0 h.0 in
    let above : x ≤ 8 → ⊥ = λ k. h.1 ((c_single w).1 (x, e, k)) in
    e ∙ ap (λ (y : ℕ). y ∷ []) (nine x l above)
  where
    nine : (x : ℕ) → x ≤ 9 → (x ≤ 8 → ⊥) → x ≡ 9
    nine x l n = omega (arith, n)
only_nine w (inr h) = let (x, e, l) = (c_single w).0 h.1 in absurd (h.0 ((a_single w).1 (x, e, omega arith)))

pub differ_ac : SameWords 0 last_symbol (read A) (read C) → ⊥
differ_ac s =
    let (x, e, l) = (c_single (9 ∷ [])).0 ((s (9 ∷ []) (more (lit≤ tt) (lit≤ tt) none)).0 ((a_single (9 ∷ [])).1 (9, refl, lit≤ tt))) in
    let nine : 9 ≡ x = head-eq_of_cons-eq e in
    omega arith

pub differ_9 : (o o' : List ℕ) (r : Verdict) → 510 ≤ length o → Judged (equality_answer 0 last_symbol A C o) o o' r → (r ≡ Different 1) × (take 1 o' ≡ 9 ∷ [])
differ_9 o o' r room judged =
    let x = equality_exact 0 last_symbol A C no_fault.0 no_fault.2 o o' r room judged DA DC determinized.0 determinized.2 in
    let (n, is, d) = x.different differ_ac in
    let word : take n o' ≡ 9 ∷ [] = only_nine (take n o') d.one in
    let one : n ≡ 1 = sym d.long ∙ ap length word in
    (is ∙ ap Different one, ap (λ k. take k o') (sym one) ∙ word)
