-- The search for the next member, word by word.
use Prim.Native.Nat.{ℕ, ◌+◌, ◌-◌, ◌*◌, ◌/◌, ◌%◌, ◌^◌, ◌≤◌, ◌<◌}
use mathlib.Core.Bool.{true, false, false≢true}
use mathlib.Core.List.{List}
use mathlib.Core.Logic.{⊎_elim}
use mathlib.Core.Path.{◌≡◌, refl, sym, ◌∙◌, ap}
use native.Mathlib.Omega.{arith}
use borrow.Author.Rules.{rules}
use borrow.Author.Tests.{ltb-true, ltb-false}
use lib.Count.{count_trailing_zeros}
use lib.Dec.{ltb}
use lib.ListN.{get_or}
use lib.Pow.{shr_le}
use Rattle.lists.proofs.Tests.{test}
use Rattle.sets.specs.Sets.{has}
use Rattle.sets.specs.inner.Members.{next_member}
use Rattle.sets.specs.inner.BitSet.{bit, in_words, set_at}
use Rattle.sets.proofs.Members.{from_skip, from_here, from_end}
use Rattle.sets.proofs.Bits.{bit_nothing, bit_past, bit_shift, trailing_one, trailing_none}
use Rattle.sets.proofs.BitSet.{in_has, at_canon}
use Rattle.sets.proofs.Steps.{Small}

next_at : (s : List ℕ) (q r : ℕ) → q ≤ r → ((x : ℕ) → q ≤ x → x < r → has x (set_at s 0) ≡ false) → has r (set_at s 0) ≡ true → r ≡ next_member (set_at s 0) q
unfolding next_member
next_at s q r l h e = sym (ap (λ L. get_or L 0 256) (from_skip _ q r l h ∙ from_here _ (at_canon s 0) r e))

-- the word in which q stands, from q on
module _ (s : List ℕ) (q : ℕ) (l : q < 256) (w : ℕ) (e : w ≡ get_or s (q / 64) 0 / 2 ^ (q % 64)) where
  -- its bits are the members from q on
  bits : (x : ℕ) → q ≤ x → x / 64 ≡ q / 64 → has x (set_at s 0) ≡ bit w (x - q)
  unfolding in_words
  bits x a c =
      let z : 0 + x / 64 ≡ q / 64 = omega arith in
      let m : q % 64 + (x - q) ≡ x % 64 = omega arith in
      sym (in_has s 0 x (omega arith)) ∙ ap (λ i. bit (get_or s i 0) (x % 64)) z
      ∙ ap (bit (get_or s (q / 64) 0)) (sym m)
      ∙ sym (bit_shift (get_or s (q / 64) 0) (q % 64) (x - q)) ∙ ap (λ v. bit v (x - q)) (sym e)

  pub word_none : w ≡ 0 → next_member (set_at s 0) (64 * (q / 64 + 1)) ≡ next_member (set_at s 0) q
  unfolding next_member
  word_none h =
      sym
      (ap (λ L. get_or L 0 256)
      (from_skip _ q (64 * (q / 64 + 1)) (omega arith)
      (λ x a b. bits x a (omega arith) ∙ ap (λ v. bit v (x - q)) h ∙ bit_nothing (x - q))))

  module _ (small : Small s) (n : w ≡ 0 → ⊥) where
    place : (q % 64 + count_trailing_zeros 64 w < 64) × (bit w (count_trailing_zeros 64 w) ≡ true)
    place =
        let v = get_or s (q / 64) 0 in
        let b : v < 2 ^ 64 = (small (q / 64)).fits in
        let r = trailing_one 64 w (omega arith) (let d = shr_le v (q % 64) in omega arith) in (
          ⊎_elim (λ c. ltb-true _ _ c)
              (λ c.
              absurd
              (false≢true
              (sym (bit_past 64 v (q % 64 + count_trailing_zeros 64 w) b (ltb-false _ _ c)) ∙ sym (bit_shift v (q % 64) (count_trailing_zeros 64 w))
              ∙ ap (λ v. bit v (count_trailing_zeros 64 w)) (sym e) ∙ r.1)))
              (test (ltb (q % 64 + count_trailing_zeros 64 w) 64)),
          r.1,
        )

    pub word_found : q + count_trailing_zeros 64 w ≡ next_member (set_at s 0) q
    word_found =
        let z = count_trailing_zeros 64 w in
        let p : q % 64 + z < 64 = place.0 in
        let d : q + z - q ≡ z = omega arith in
        next_at s q (q + z) (omega arith) (λ x a b. bits x a (omega arith) ∙ trailing_none 64 w (x - q) (omega arith))
        (bits (q + z) (omega arith) (omega arith) ∙ ap (bit w) d ∙ place.1)

pub next_over : (s : List ℕ) (q : ℕ) → 256 ≤ q → 256 ≡ next_member (set_at s 0) q
unfolding next_member
next_over s q l = sym (ap (λ L. get_or L 0 256) (from_end _ (at_canon s 0) q l))

-- the words from word i on, of which those before j are 0
module _ (s : List ℕ) (i j : ℕ) (e : next_member (set_at s 0) (64 * j) ≡ next_member (set_at s 0) (64 * i)) where
  pub first_over : 4 ≤ j → 256 ≡ next_member (set_at s 0) (64 * i)
  first_over l = next_over s (64 * j) (omega arith) ∙ e

  whole : get_or s j 0 ≡ get_or s (64 * j / 64) 0 / 2 ^ (64 * j % 64)
  whole = let c : 64 * j / 64 ≡ j = omega arith in let m : 64 * j % 64 ≡ 0 = omega arith in rw (c, m) (omega arith)

  pub first_found : (r : ℕ) → Small s → j < 4 → (get_or s j 0 ≡ 0 → ⊥) → r ≡ count_trailing_zeros 64 (get_or s j 0) → 64 * j + r ≡ next_member (set_at s 0) (64 * i)
  first_found r small l n h = ap (λ x. 64 * j + x) h ∙ word_found s (64 * j) (omega arith) (get_or s j 0) whole small n ∙ e

  pub first_next : j < 4 → get_or s j 0 ≡ 0 → next_member (set_at s 0) (64 * (j + 1)) ≡ next_member (set_at s 0) (64 * i)
  first_next l h = let c : 64 * j / 64 ≡ j = omega arith in rw c at (word_none s (64 * j) (omega arith) (get_or s j 0) whole h) ∙ e

module _ (s : List ℕ) (q : ℕ) (l : q < 256) where
  pub next_found : (r : ℕ) → Small s → (get_or s (q / 64) 0 / 2 ^ (q % 64) ≡ 0 → ⊥) → r ≡ count_trailing_zeros 64 (get_or s (q / 64) 0 / 2 ^ (q % 64)) → q + r ≡ next_member (set_at s 0) q
  next_found r small n h = ap (λ x. q + x) h ∙ word_found s q l _ refl small n

  pub next_later : (r : ℕ) → get_or s (q / 64) 0 / 2 ^ (q % 64) ≡ 0 → r ≡ next_member (set_at s 0) (64 * (q / 64 + 1)) → r ≡ next_member (set_at s 0) q
  next_later r h k = k ∙ word_none s q l _ refl h

pub ruleset scan_laws = (next_over, first_over, first_found, first_next, next_found, next_later, rules)
