-- What the sequence of two, three or four bytes at a place stands for, in the order of the code's tests.
use Prim.Native.Nat.{ℕ, zero, suc, ◌+◌, ◌-◌, ◌*◌, ◌%◌, ◌≤◌, ◌<◌}
use mathlib.Core.Bool.{Bool, true, false, not, cond, ◌&&◌, and-false}
use mathlib.Core.List.{List, [], ◌∷◌}
use mathlib.Core.Path.{◌≡◌, refl, sym, ◌∙◌, ap}
use native.Mathlib.Omega.{arith}
use borrow.Author.Rules.{rules}
use borrow.Author.Tests.{not-true, not-false}
use lib.ListN.{length, get_or, drop, length-drop}
use lib.Dec.{eqb}
use lib.Seq.{get_or-drop}
use Rattle.lists.proofs.Parts.{drop_at}
use Rattle.utf8.specs.Utf8.{is_continuation, fault, continued, lead_bits, value_of, least_value, is_improper, scalar_of, sequence}
use Rattle.utf8.specs.inner.Steps.{placed}
use Rattle.utf8.specs.declared.Step.{Step}
use Rattle.utf8.specs.declared.Step.TheVariants.{Point, Malformed}

-- continuation bytes that are not all there, and another byte among them
continued_cut : (k : ℕ) (l : List ℕ) → length l < k → continued k l ≡ false
unfolding continued
continued_cut zero l h = absurd (omega arith)
continued_cut (suc k) [] h = refl
continued_cut (suc k) (b ∷ l) h = ap (λ (c : Bool). is_continuation b && c) (continued_cut k l (omega arith)) ∙ and-false (is_continuation b)

continued_broken : (k i : ℕ) (l : List ℕ) → i < k → is_continuation (get_or l i 0) ≡ false → continued k l ≡ false
unfolding continued
continued_broken zero i l h e = absurd (omega arith)
continued_broken (suc k) i [] h e = refl
continued_broken (suc k) zero (b ∷ l) h e = rw e
continued_broken (suc k) (suc i) (b ∷ l) h e = ap (λ (c : Bool). is_continuation b && c) (continued_broken k i l (omega arith) e) ∙ and-false (is_continuation b)

-- either fault is one of the sequence
faulty : (n a : ℕ) (rest : List ℕ) → continued (n - 1) rest ≡ false → sequence n a rest ≡ fault
unfolding sequence
faulty n a rest e = rw e (either (eqb n 0))
  where
    either : (b : Bool) → cond b fault fault ≡ fault
    either true = refl
    either false = refl

-- a value that was tested against the least one of its length
module _ (at n x m : ℕ) (s : Bool) (is-least : m ≡ least_value n) (told : s ≡ is_improper m x) where
  pub scalar_bad : s ≡ true → Malformed ≡ placed at (scalar_of n x)
  unfolding scalar_of
  scalar_bad k = rw (← is-least, sym told ∙ k)

  pub scalar_good : s ≡ false → Point x (at + n) ≡ placed at (scalar_of n x)
  unfolding scalar_of
  scalar_good k = rw (← is-least, sym told ∙ k)

module _ (t : List ℕ) (at : ℕ) where
  next_place : (j k : ℕ) → j + 1 ≡ k → at + j + 1 ≡ at + k
  next_place j k e = omega arith

  -- the byte at the place at + j, and those behind it
  one_more : (j k : ℕ) → j + 1 ≡ k → k ≤ length t - at → drop (at + j) t ≡ get_or t (at + j) 0 ∷ drop (at + k) t
  one_more j k e h = drop_at t (at + j) (omega arith) ∙ ap (λ p. get_or t (at + j) 0 ∷ drop p t) (next_place j k e)

  -- a sequence of n bytes that are not all there
  pub cut : (n : ℕ) → at < length t → length t - at < n → Malformed ≡ placed at (sequence n (get_or t at 0) (drop (at + 1) t))
  cut n p h = ap (placed at) (sym (faulty n _ _ (continued_cut (n - 1) (drop (at + 1) t) (simp length-drop (omega arith)))))

  -- a sequence of n bytes with another byte in the place of a continuation byte
  broken : (n j : ℕ) (r : Bool) → 1 ≤ j → j < n → r ≡ is_continuation (get_or t (at + j) 0) → not r ≡ true
      → Malformed ≡ placed at (sequence n (get_or t at 0) (drop (at + 1) t))
  broken n j r p q e b =
      let place : at + 1 + (j - 1) ≡ at + j = omega arith in
      let bad : is_continuation (get_or (drop (at + 1) t) (j - 1) 0) ≡ false = rw (get_or-drop, place) (sym e ∙ not-true r b) in
      ap (placed at) (sym (faulty n _ _ (continued_broken (n - 1) (j - 1) (drop (at + 1) t) (omega arith) bad)))

  pub broken_1 : (n : ℕ) (r : Bool) → 1 < n → r ≡ is_continuation (get_or t (at + 1) 0) → not r ≡ true
      → Malformed ≡ placed at (sequence n (get_or t at 0) (drop (at + 1) t))
  broken_1 n r = broken n 1 r (omega arith)

  pub broken_2 : (n : ℕ) (r : Bool) → 2 < n → r ≡ is_continuation (get_or t (at + 2) 0) → not r ≡ true
      → Malformed ≡ placed at (sequence n (get_or t at 0) (drop (at + 1) t))
  broken_2 n r = broken n 2 r (omega arith)

  pub broken_3 : (n : ℕ) (r : Bool) → 3 < n → r ≡ is_continuation (get_or t (at + 3) 0) → not r ≡ true
      → Malformed ≡ placed at (sequence n (get_or t at 0) (drop (at + 1) t))
  broken_3 n r = broken n 3 r (omega arith)

  -- a sequence whose bytes are all as they have to be
  pub whole_2 : (r : Bool) (w x : ℕ) (s : Step) → 2 ≤ length t - at → r ≡ is_continuation (get_or t (at + 1) 0) → not r ≡ false
      → w ≡ get_or t at 0 % 32 → x ≡ w * 64 + get_or t (at + 1) 0 % 64 → s ≡ placed at (scalar_of 2 x)
      → s ≡ placed at (sequence 2 (get_or t at 0) (drop (at + 1) t))
  unfolding sequence continued lead_bits value_of
  whole_2 r w x s h e n ew ex es = es ∙ rw (one_more 1 2 refl h, sym e ∙ not-false r n, ← ew, ← ex)

  pub whole_3 : (r₁ r₂ : Bool) (w x y : ℕ) (s : Step) → 3 ≤ length t - at
      → r₁ ≡ is_continuation (get_or t (at + 1) 0) → not r₁ ≡ false → r₂ ≡ is_continuation (get_or t (at + 2) 0) → not r₂ ≡ false
      → w ≡ get_or t at 0 % 16 → x ≡ w * 64 + get_or t (at + 1) 0 % 64 → y ≡ x * 64 + get_or t (at + 2) 0 % 64
      → s ≡ placed at (scalar_of 3 y) → s ≡ placed at (sequence 3 (get_or t at 0) (drop (at + 1) t))
  unfolding sequence continued lead_bits value_of
  whole_3 r₁ r₂ w x y s h e₁ n₁ e₂ n₂ ew ex ey es =
      es
      ∙ rw (one_more 1 2 refl (omega arith), one_more 2 3 refl h, sym e₁ ∙ not-false r₁ n₁, sym e₂ ∙ not-false r₂ n₂, ← ew, ← ex, ← ey)

  pub whole_4 : (r₁ r₂ r₃ : Bool) (w x y z : ℕ) (s : Step) → 4 ≤ length t - at
      → r₁ ≡ is_continuation (get_or t (at + 1) 0) → not r₁ ≡ false → r₂ ≡ is_continuation (get_or t (at + 2) 0) → not r₂ ≡ false
      → r₃ ≡ is_continuation (get_or t (at + 3) 0) → not r₃ ≡ false
      → w ≡ get_or t at 0 % 8 → x ≡ w * 64 + get_or t (at + 1) 0 % 64 → y ≡ x * 64 + get_or t (at + 2) 0 % 64
      → z ≡ y * 64 + get_or t (at + 3) 0 % 64
      → s ≡ placed at (scalar_of 4 z) → s ≡ placed at (sequence 4 (get_or t at 0) (drop (at + 1) t))
  unfolding sequence continued lead_bits value_of
  whole_4 r₁ r₂ r₃ w x y z s h e₁ n₁ e₂ n₂ e₃ n₃ ew ex ey ez es =
      es
      ∙ rw (
        one_more 1 2 refl (omega arith),
        one_more 2 3 refl (omega arith),
        one_more 3 4 refl h,
        sym e₁ ∙ not-false r₁ n₁,
        sym e₂ ∙ not-false r₂ n₂,
        sym e₃ ∙ not-false r₃ n₃,
        ← ew,
        ← ex,
        ← ey,
        ← ez,
      )

-- for a return before the value is known
pub ruleset faults = (cut, broken_1, broken_2, broken_3, rules)
