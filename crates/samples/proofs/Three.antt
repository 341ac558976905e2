-- The determinizations of A and B side by side have 7 states in 3 classes: the starts, the accepting states, the sinks.
use Prim.Native.Nat.{ℕ, zero, suc, ◌+◌, ◌≤◌, ◌<◌}
use mathlib.Core.Bool.{true, false, cond}
use mathlib.Core.List.Memᴰ
use mathlib.Core.List.{[], ◌∷◌}
use mathlib.Core.Logic.{⊎_elim}
use mathlib.Core.Path.{◌≡◌, refl, sym, ap, ◌∙◌}
use native.Mathlib.Omega.{arith}
use borrow.Author.Tests.{leb-true, leb-false, le-leb}
use lib.Dec.{leb, lit≤}
use lib.ListN.{get_or}
use Rattle.lists.specs.Lists.{◌∈◌, filter}
use Rattle.lists.proofs.Tests.{test}
use Rattle.automata.specs.Automaton.{Transition, holds, carries}
use Rattle.automata.specs.WellFormed.{WellFormed, last_symbol}
use Rattle.automata.specs.Deterministic.{Deterministic}
use Rattle.determinize.proofs.Theorems.{determinize_deterministic}
use Rattle.dsu.specs.Classes.{Classes, none, old, new}
use Rattle.equality.specs.Forced.{JoinsSuccessors, Forced, starts, follow, successor_in}
use Rattle.automata.specs.Successors.{successor}
use Rattle.equality.proofs.Exact.{smallest_two}
use Rattle.equality.proofs.Forced.{successor_left, successor_right, by_side}
use Rattle.automata.proofs.Successors.{successor_is}
use Rattle.sheets.specs.Sheet.{read}
use Rattle.sheets.proofs.Accepted.{accepted}
use Rattle.sheets.proofs.Meaning.{read_well}
use Rattle.samples.proofs.Patterns.{determinized, no_fault}
use Rattle.samples.specs.Samples.{range_transition, A, B, DA, DB, both_determinized}

pub well_a : WellFormed (read A)
well_a = read_well A (accepted A no_fault.0)

pub well_b : WellFormed (read B)
well_b = read_well B (accepted B no_fault.1)

det_a : Deterministic 0 last_symbol DA
det_a = determinize_deterministic 0 last_symbol (read A) well_a.states DA determinized.0

det_b : Deterministic 0 last_symbol DB
det_b = determinize_deterministic 0 last_symbol (read B) well_b.states DB determinized.1

-- the class of a state, and of its successors
abbrev class : ℕ → ℕ
class p = get_or (0 ∷ 1 ∷ 2 ∷ 0 ∷ 1 ∷ 1 ∷ 2 ∷ []) p 0

abbrev next : ℕ → ℕ → ℕ
next zero x = cond (leb x 9) 1 2
next (suc c) x = 2

module _ (x : ℕ) (h : x ≤ last_symbol) where
  to_a : (p : ℕ) → p < 3 → (e : Transition) → e ∈ DA.transitions → e.from ≡ p → e.first ≤ x → x ≤ e.last → successor DA p x ≡ e.to
  to_a p i e = successor_is 0 last_symbol DA det_a p x i (omega arith) h e

  to_b : (p : ℕ) → p < 4 → (e : Transition) → e ∈ DB.transitions → e.from ≡ p → e.first ≤ x → x ≤ e.last → successor DB p x ≡ e.to
  to_b p i e = successor_is 0 last_symbol DB det_b p x i (omega arith) h e

  class_a : (p : ℕ) → p < 3 → class (successor DA p x) ≡ next (class p) x
  class_a zero i =
      ⊎_elim (λ (t : leb x 9 ≡ true). rw (t, to_a 0 i (range_transition 0 0 9 1) (Memᴰ.head refl) refl (omega arith) (leb-true x 9 t)))
      (λ (t : leb x 9 ≡ false). rw (t, to_a 0 i (range_transition 0 10 last_symbol 2) (Memᴰ.tail (Memᴰ.head refl)) refl (leb-false x 9 t) h))
      (test (leb x 9))
  class_a (suc zero) i = rw (to_a 1 i (range_transition 1 0 last_symbol 2) (Memᴰ.tail (Memᴰ.tail (Memᴰ.head refl))) refl (omega arith) h)
  class_a (suc (suc zero)) i = rw (to_a 2 i (range_transition 2 0 last_symbol 2) (Memᴰ.tail (Memᴰ.tail (Memᴰ.tail (Memᴰ.head refl)))) refl (omega arith) h)
  class_a (suc (suc (suc p))) i = absurd (omega arith)

  class_b : (q : ℕ) → q < 4 → class (3 + successor DB q x) ≡ next (class (3 + q)) x
  class_b zero i =
      ⊎_elim
      (λ (t : leb x 4 ≡ true).
      let low = leb-true x 4 t in
      rw (le-leb x 9 (omega arith), to_b 0 i (range_transition 0 0 4 1) (Memᴰ.head refl) refl (omega arith) low))
      (λ (t : leb x 4 ≡ false).
      let high = leb-false x 4 t in
      ⊎_elim (λ (u : leb x 9 ≡ true). rw (u, to_b 0 i (range_transition 0 5 9 2) (Memᴰ.tail (Memᴰ.head refl)) refl high (leb-true x 9 u)))
      (λ (u : leb x 9 ≡ false). rw (u, to_b 0 i (range_transition 0 10 last_symbol 3) (Memᴰ.tail (Memᴰ.tail (Memᴰ.head refl))) refl (leb-false x 9 u) h))
      (test (leb x 9)))
      (test (leb x 4))
  class_b (suc zero) i = rw (to_b 1 i (range_transition 1 0 last_symbol 3) (Memᴰ.tail (Memᴰ.tail (Memᴰ.tail (Memᴰ.head refl)))) refl (omega arith) h)
  class_b (suc (suc zero)) i = rw (to_b 2 i (range_transition 2 0 last_symbol 3) (Memᴰ.tail (Memᴰ.tail (Memᴰ.tail (Memᴰ.tail (Memᴰ.head refl))))) refl (omega arith) h)
  class_b (suc (suc (suc zero))) i = rw (to_b 3 i (range_transition 3 0 last_symbol 3) (Memᴰ.tail (Memᴰ.tail (Memᴰ.tail (Memᴰ.tail (Memᴰ.tail (Memᴰ.head refl)))))) refl (omega arith) h)
  class_b (suc (suc (suc (suc q)))) i = absurd (omega arith)

  class_both : (p : ℕ) → p < 7 → class (successor_in both_determinized p x) ≡ next (class p) x
  class_both = by_side both_determinized (λ (p : ℕ). class (successor_in both_determinized p x) ≡ next (class p) x)
      (λ p i. rw (successor_left both_determinized p x i) (class_a p i))
      (λ q i. rw (successor_right both_determinized q x) (class_b q i))

-- states of one class have successors of one class
joins : JoinsSuccessors both_determinized (λ p q. class p ≡ class q)
joins =
    record {
      equivalence = record { reflexive = λ p h. refl; symmetric = λ p q h k e. sym e; transitive = λ p q r h k l e f. e ∙ f };
      starts = refl;
      follow = λ p q x h k s e. class_both x s.1 p h ∙ ap (λ (c : ℕ). next c x) e ∙ sym (class_both x s.1 q k);
    }

apart : {p q : ℕ} → Forced both_determinized p q → class p ≡ class q
apart {p} {q} f = (smallest_two 0 last_symbol (read A) (read B) well_a well_b DA DB determinized.0 determinized.1).least (λ p q. class p ≡ class q) joins p q f

-- the starts are joined, and with them their successors under 0, 5 and 10
joined : Forced both_determinized 0 3 × Forced both_determinized 1 4 × Forced both_determinized 1 5 × Forced both_determinized 2 6
unfolding successor_in successor filter carries holds
joined = (starts, follow 0 (lit≤ tt, lit≤ tt) starts, follow 5 (lit≤ tt, lit≤ tt) starts, follow 10 (lit≤ tt, lit≤ tt) starts)

pub three : Classes (Forced both_determinized) 7 3
three =
    old 2 (lit≤ tt) joined.3
    (old 1 (lit≤ tt) joined.2
    (old 1 (lit≤ tt) joined.1
    (old 0 (lit≤ tt) joined.0
    (new (λ i h f. second i h (apart f))
    (new (λ i h f. first i h (apart f))
    (new (λ i (h : i < 0) f. omega arith) none))))))
  where
    first : (i : ℕ) → i < 1 → class i ≡ 1 → ⊥
    first zero h e = omega arith
    first (suc i) h e = omega arith

    second : (i : ℕ) → i < 2 → class i ≡ 2 → ⊥
    second zero h e = omega arith
    second (suc zero) h e = omega arith
    second (suc (suc i)) h e = omega arith
