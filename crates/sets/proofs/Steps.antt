-- The laws by which the functions are proved: each has the shape of what a function is asked at a return or at the next turn of its loop.
use Prim.Native.Nat.{ℕ, ◌+◌, ◌*◌, ◌/◌, ◌%◌, ◌^◌, ◌<◌}
use mathlib.Core.Bool.{true, false, false≢true}
use mathlib.Core.List.{List, [], ◌∷◌}
use mathlib.Core.Logic.{⊎_elim}
use mathlib.Core.Path.{◌≡◌, refl, sym, ◌∙◌, ap}
use native.Mathlib.Numerals.{add-one}
use native.Mathlib.Omega.{arith}
use borrow.Author.Rules.{rules}
use borrow.Author.Tests.{eq-eqb, eqb-true, eqb-false}
use mir.Syntax.{w64}
use mir.Val.{Fits}
use lib.Bits.{bit_or, or_add_and, and_le_l, and_le_r}
use lib.Dec.{eqb, lit<}
use lib.ListN.{get_or, set, length, drop}
use lib.Pow.{shl_exact}
use lib.Seq.{drop-cons}
use Rattle.lists.proofs.Tests.{test, true_same}
use Rattle.lists.specs.Index.{same}
use Rattle.lists.proofs.Index.{equal_same, unequal_same}
use Rattle.sets.specs.Sets.{has, is_empty}
use Rattle.sets.specs.inner.BitSet.{bit, in_words, set_at, entries}
use Rattle.sets.specs.inner.Words.{insert_at}
use Rattle.sets.proofs.Sets.{empty_yes}
use Rattle.sets.proofs.BitSet.{four, in_has, sets_by_words, words_by_sets, zeros_at, entry_at, length_entries}

-- one bit is read, or stored
pub has_word : (t : List ℕ) (o q : ℕ) → q < 256 → eqb (get_or t (o + q / 64) 0 / 2 ^ (q % 64) % 2) 1 ≡ has q (set_at t o)
unfolding in_words bit
has_word t o q l = in_has t o q l

one_shl : (k : ℕ) → k < 64 → 1 * 2 ^ k % 2 ^ 64 ≡ 2 ^ k
one_shl k l = shl_exact {a = 1} 1 k 64 (lit< tt) (omega arith) ∙ omega arith

pub insert_word : (t : List ℕ) (o q : ℕ) → set t (o + q / 64) (bit_or (get_or t (o + q / 64) 0) (1 * 2 ^ (q % 64) % 2 ^ 64)) ≡ insert_at t o q
unfolding insert_at
insert_word t o q = ap (λ w. set t (o + q / 64) (bit_or (get_or t (o + q / 64) 0) w)) (one_shl (q % 64) (omega arith))

-- four words that are 0 hold the empty set, and no others do
or_none : (a b : ℕ) → bit_or a b ≡ 0 → (a ≡ 0) × (b ≡ 0)
or_none a b e = let p = or_add_and a b in let l = and_le_l a b in let r = and_le_r a b in (omega arith, omega arith)

-- what is known of a slice of words: each has 64 bits
abbrev pub Small : List ℕ → Type 0
Small t = (i : ℕ) → Fits w64 (get_or t i 0)

below : (t : List ℕ) → Small t → (i : ℕ) → get_or t i 0 < 2 ^ 64
below t h i = (h i).fits

module _ (s : List ℕ) (small : Small s) where
  abbrev all : ℕ
  all = bit_or (bit_or (bit_or (get_or s 0 0) (get_or s 1 0)) (get_or s 2 0)) (get_or s 3 0)

  zeros : all ≡ 0 → set_at s 0 ≡ []
  zeros h =
      let x = or_none (bit_or (bit_or (get_or s 0 0) (get_or s 1 0)) (get_or s 2 0)) (get_or s 3 0) h in
      let y = or_none (bit_or (get_or s 0 0) (get_or s 1 0)) (get_or s 2 0) x.0 in
      let z = or_none (get_or s 0 0) (get_or s 1 0) y.0 in
      zeros_at s 0 (four (λ i. get_or s (0 + i) 0 ≡ 0) z.0 z.1 y.1 x.1)

  nothing : set_at s 0 ≡ [] → all ≡ 0
  nothing h =
      let w = words_by_sets s [] 0 0 (below s small) (λ i. lit< tt) (h ∙ sym (zeros_at [] 0 (λ i l. refl))) in
      rw (w 0 (omega arith), w 1 (omega arith), w 2 (omega arith), w 3 (omega arith))

  pub empty_words : eqb all 0 ≡ is_empty (set_at s 0)
  unfolding is_empty
  empty_words = true_same _ _ (λ h. ap is_empty (zeros (eqb-true all 0 h))) (λ h. eq-eqb all 0 (nothing (empty_yes _ h)))

-- a row is the set s if all four words are equal
module _ (t s : List ℕ) (o : ℕ) (bt : Small t) (bs : Small s) where
  differ : (i : ℕ) → i < 4 → (get_or t (o + i) 0 ≡ get_or s i 0 → ⊥) → false ≡ same (set_at s 0) (set_at t o)
  differ i l h = sym (unequal_same _ _ (λ e. let z : 0 + i ≡ i = omega arith in h (rw z at (words_by_sets t s o 0 (below t bt) (below s bs) (sym e) i l))))

  pub same_differ₀ : (get_or t o 0 ≡ get_or s 0 0 → ⊥) → false ≡ same (set_at s 0) (set_at t o)
  same_differ₀ h = differ 0 (omega arith) (λ e. let z : o + 0 ≡ o = omega arith in h (rw z at e))

  pub same_differ₁ : (get_or t (o + 1) 0 ≡ get_or s 1 0 → ⊥) → false ≡ same (set_at s 0) (set_at t o)
  same_differ₁ h = differ 1 (omega arith) h

  pub same_differ₂ : (get_or t (o + 2) 0 ≡ get_or s 2 0 → ⊥) → false ≡ same (set_at s 0) (set_at t o)
  same_differ₂ h = differ 2 (omega arith) h

  pub same_last : get_or t o 0 ≡ get_or s 0 0 → get_or t (o + 1) 0 ≡ get_or s 1 0 → get_or t (o + 2) 0 ≡ get_or s 2 0 → eqb (get_or t (o + 3) 0) (get_or s 3 0) ≡ same (set_at s 0) (set_at t o)
  same_last x y z = true_same _ _ all none
    where
      first : get_or t (o + 0) 0 ≡ get_or s 0 0
      first = let e : o + 0 ≡ o = omega arith in rw e x

      all : eqb (get_or t (o + 3) 0) (get_or s 3 0) ≡ true → same (set_at s 0) (set_at t o) ≡ true
      all h = equal_same _ _ (sym (sets_by_words t s o 0 (four (λ i. get_or t (o + i) 0 ≡ get_or s (0 + i) 0) first y z (eqb-true _ _ h))))

      none : same (set_at s 0) (set_at t o) ≡ true → eqb (get_or t (o + 3) 0) (get_or s 3 0) ≡ true
      none h = ⊎_elim (λ e. e) (λ e. absurd (false≢true (differ 3 (omega arith) (eqb-false _ _ e) ∙ h))) (test (eqb (get_or t (o + 3) 0) (get_or s 3 0)))

pub ruleset word_laws = (has_word, insert_word, empty_words, same_differ₀, same_differ₁, same_differ₂, same_last, rules)

-- the entries of a table from j on
pub entries_from : (t : List ℕ) (n j : ℕ) → j < n → drop j (entries t n) ≡ set_at t (4 * j) ∷ drop (j + 1) (entries t n)
entries_from t n j l = let m : j < length (entries t n) = rw length_entries l in rw (add-one, drop-cons (entries t n) j [], entry_at t n j l)
