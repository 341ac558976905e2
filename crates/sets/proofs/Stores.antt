-- What the stores do to the sets that the words hold, and that they keep the table's length.
use Prim.Native.Nat.{ℕ, ◌+◌, ◌*◌, ◌/◌, ◌%◌, ◌^◌, ◌≤◌, ◌<◌}
use mathlib.Core.Bool.{Bool, true, false, ◌||◌}
use mathlib.Core.List.{List, [], ◌∷◌, ◌++◌}
use mathlib.Core.Logic.{◌⊎◌, inl, inr, ⊎_elim, ◌≢◌}
use mathlib.Core.Path.{◌≡◌, refl, sym, ◌∙◌, ap, ap₂}
use native.Mathlib.Numerals.{add-one}
use native.Mathlib.Omega.{arith}
use borrow.Author.Tests.{ltb-true, ltb-false, eq-eqb, eqb-true, eqb-false, ne_eqb}
use lib.Bits.{bit_or}
use lib.Dec.{eqb, ltb}
use lib.ListN.{get_or, set, length, length-set}
use lib.Seq.{get_or-set_same, get_or-set_other}
use Rattle.lists.proofs.Lists.{tabulate_ext, tabulate_end}
use Rattle.lists.proofs.Tests.{test, true_same}
use Rattle.sets.specs.Sets.{has, pick}
use Rattle.sets.specs.inner.Members.{Canon}
use Rattle.sets.specs.inner.BitSet.{bit, in_words, set_at, entries}
use Rattle.sets.specs.inner.Words.{put_words, insert_at, union_at, put_at, clear_at}
use Rattle.sets.proofs.Sets.{wide, has_past}
use Rattle.sets.proofs.Bits.{bit_or_lem, bit_pow}
use Rattle.sets.proofs.BitSet.{four, in_has, bits_at, sets_by_words, zeros_at}

apart : (j p : ℕ) → j ≢ p → (4 * j + 4 ≤ 4 * p) ⊎ (4 * p + 4 ≤ 4 * j)
apart j p h =
    ⊎_elim (λ c. let l : j < p = ltb-true j p c in inl (omega arith)) (λ c. let l : p ≤ j = ltb-false j p c in inr (omega arith)) (test (ltb j p))

-- four words
module _ (t : List ℕ) (o a b c d : ℕ) where
  abbrev one : List ℕ
  one = set t o a

  abbrev two : List ℕ
  two = set one (o + 1) b

  abbrev three : List ℕ
  three = set two (o + 2) c

  length_put_words : length (put_words t o a b c d) ≡ length t
  length_put_words = simp length-set

  word_other : (m : ℕ) → (m < o) ⊎ (o + 4 ≤ m) → get_or (put_words t o a b c d) m 0 ≡ get_or t m 0
  word_other m h =
      get_or-set_other three (o + 3) m d 0 (far 3 (omega arith)) ∙ get_or-set_other two (o + 2) m c 0 (far 2 (omega arith))
      ∙ get_or-set_other one (o + 1) m b 0 (far 1 (omega arith)) ∙ get_or-set_other t o m a 0 (λ e. far 0 (omega arith) (omega arith))
    where
      far : (i : ℕ) → i < 4 → m ≡ o + i → ⊥
      far i l e = ⊎_elim (λ (g : m < o). omega arith) (λ (g : o + 4 ≤ m). omega arith) h

  row_other : (m : ℕ) → (m + 4 ≤ o) ⊎ (o + 4 ≤ m) → set_at (put_words t o a b c d) m ≡ set_at t m
  row_other m h =
      sets_by_words _ t m m
      (λ i l. word_other (m + i) (⊎_elim (λ (g : m + 4 ≤ o). inl (omega arith)) (λ (g : o + 4 ≤ m). inr (omega arith)) h))

  word_same : o + 4 ≤ length t → (i : ℕ) → i < 4 → get_or (put_words t o a b c d) (o + i) 0 ≡ get_or (a ∷ b ∷ c ∷ d ∷ []) i 0
  word_same h =
      four (λ i. get_or (put_words t o a b c d) (o + i) 0 ≡ get_or (a ∷ b ∷ c ∷ d ∷ []) i 0)
      (let z : o + 0 ≡ o = omega arith in
      rw z
      (get_or-set_other three (o + 3) o d 0 (omega arith) ∙ get_or-set_other two (o + 2) o c 0 (omega arith)
      ∙ get_or-set_other one (o + 1) o b 0 (omega arith) ∙ get_or-set_same t o a 0 (omega arith)))
      (get_or-set_other three (o + 3) (o + 1) d 0 (omega arith) ∙ get_or-set_other two (o + 2) (o + 1) c 0 (omega arith)
      ∙ get_or-set_same one (o + 1) b 0 (simp length-set (omega arith)))
      (get_or-set_other three (o + 3) (o + 2) d 0 (omega arith) ∙ get_or-set_same two (o + 2) c 0 (simp length-set (omega arith)))
      (get_or-set_same three (o + 3) d 0 (simp length-set (omega arith)))

-- a union
module _ (t : List ℕ) (o : ℕ) (u : List ℕ) (k : ℕ) where
  pub length_union : length (union_at t o u k) ≡ length t
  unfolding union_at
  length_union = length_put_words t o _ _ _ _

  word_union : o + 4 ≤ length t → (i : ℕ) → i < 4 → get_or (union_at t o u k) (o + i) 0 ≡ bit_or (get_or t (o + i) 0) (get_or u (k + i) 0)
  unfolding union_at
  word_union b =
      four (λ i. get_or (union_at t o u k) (o + i) 0 ≡ bit_or (get_or t (o + i) 0) (get_or u (k + i) 0))
      (word_same t o _ _ _ _ b 0 (omega arith)
      ∙ (let z : o + 0 ≡ o = omega arith in let y : k + 0 ≡ k = omega arith in rw (z, y)))
      (word_same t o _ _ _ _ b 1 (omega arith))
      (word_same t o _ _ _ _ b 2 (omega arith))
      (word_same t o _ _ _ _ b 3 (omega arith))

  -- the set that takes in another is the union
  pub unioned : o + 4 ≤ length t → set_at (union_at t o u k) o ≡ pick 256 (λ q. has q (set_at t o) || has q (set_at u k))
  unfolding in_words
  unioned b =
      bits_at _ o _
      (λ q l.
      ap (λ w. bit w (q % 64)) (word_union b (q / 64) (omega arith)) ∙ bit_or_lem _ _ (q % 64)
      ∙ ap₂ ◌||◌ (in_has t o q l) (in_has u k q l))

  -- the same for sets of states below n
  pub unioned_below : (n : ℕ) → n ≤ 256 → o + 4 ≤ length t → Canon n (set_at t o) → Canon n (set_at u k) → set_at (union_at t o u k) o ≡ pick n (λ q. has q (set_at t o) || has q (set_at u k))
  unioned_below n l b c d =
      unioned b ∙ wide 0 n 256 _ l (λ q g. rw (has_past n _ c q (omega arith), has_past n _ d q (omega arith)))

pub union_other : (t : List ℕ) (p : ℕ) (u : List ℕ) (k j : ℕ) → j ≢ p → set_at (union_at t (4 * p) u k) (4 * j) ≡ set_at t (4 * j)
unfolding union_at
union_other t p u k j h = row_other t (4 * p) _ _ _ _ (4 * j) (apart j p h)

-- a copy
module _ (t : List ℕ) (o : ℕ) (u : List ℕ) (k : ℕ) where
  pub put_same : o + 4 ≤ length t → set_at (put_at t o u k) o ≡ set_at u k
  unfolding put_at
  put_same b =
      sets_by_words _ u o k
      (four (λ i. get_or (put_at t o u k) (o + i) 0 ≡ get_or u (k + i) 0)
      (word_same t o _ _ _ _ b 0 (omega arith) ∙ (let y : k + 0 ≡ k = omega arith in rw y))
      (word_same t o _ _ _ _ b 1 (omega arith))
      (word_same t o _ _ _ _ b 2 (omega arith))
      (word_same t o _ _ _ _ b 3 (omega arith)))

pub put_other : (t : List ℕ) (p : ℕ) (u : List ℕ) (k j : ℕ) → j ≢ p → set_at (put_at t (4 * p) u k) (4 * j) ≡ set_at t (4 * j)
unfolding put_at
put_other t p u k j h = row_other t (4 * p) _ _ _ _ (4 * j) (apart j p h)

-- a set that becomes empty
module _ (t : List ℕ) (o : ℕ) where
  pub cleared : o + 4 ≤ length t → set_at (clear_at t o) o ≡ []
  unfolding clear_at
  cleared b =
      zeros_at _ o
      (four (λ i. get_or (clear_at t o) (o + i) 0 ≡ 0) (word_same t o 0 0 0 0 b 0 (omega arith)) (word_same t o 0 0 0 0 b 1 (omega arith))
      (word_same t o 0 0 0 0 b 2 (omega arith))
      (word_same t o 0 0 0 0 b 3 (omega arith)))

-- a set that gets a member
module _ (t : List ℕ) (o q : ℕ) where
  pub length_insert : length (insert_at t o q) ≡ length t
  unfolding insert_at
  length_insert = length-set t _ _

  pub inserted : o + 4 ≤ length t → q < 256 → set_at (insert_at t o q) o ≡ pick 256 (λ r. has r (set_at t o) || eqb r q)
  unfolding insert_at in_words
  inserted b l = bits_at _ o _ (λ r m. ⊎_elim (here r m) (there r m) (test (eqb (r / 64) (q / 64))))
    where
      new : ℕ
      new = bit_or (get_or t (o + q / 64) 0) (2 ^ (q % 64))

      or_false : (b : Bool) → b ≡ (b || false)
      or_false true = refl
      or_false false = refl

      here : (r : ℕ) → r < 256 → eqb (r / 64) (q / 64) ≡ true → in_words (set t (o + q / 64) new) o r ≡ (has r (set_at t o) || eqb r q)
      here r m h =
          let e : r / 64 ≡ q / 64 = eqb-true _ _ h in
          let w : get_or (set t (o + q / 64) new) (o + r / 64) 0 ≡ bit_or (get_or t (o + r / 64) 0) (2 ^ (q % 64)) = rw e (get_or-set_same t (o + q / 64) new 0 (omega arith)) in
          ap (λ w. bit w (r % 64)) w ∙ bit_or_lem _ _ (r % 64)
          ∙ ap₂ ◌||◌ (in_has t o r m)
          (bit_pow (q % 64) (r % 64)
          ∙ true_same _ _ (λ g. let d = eqb-true (r % 64) (q % 64) g in eq-eqb r q (omega arith)) (λ g. let d = eqb-true r q g in eq-eqb (r % 64) (q % 64) (omega arith)))

      there : (r : ℕ) → r < 256 → eqb (r / 64) (q / 64) ≡ false → in_words (set t (o + q / 64) new) o r ≡ (has r (set_at t o) || eqb r q)
      there r m h =
          let n : r / 64 ≡ q / 64 → ⊥ = eqb-false _ _ h in
          ap (λ w. bit w (r % 64)) (get_or-set_other t (o + q / 64) (o + r / 64) new 0 (λ e. n (omega arith))) ∙ in_has t o r m
          ∙ or_false (has r (set_at t o)) ∙ ap (λ b. has r (set_at t o) || b) (sym (ne_eqb r q (λ e. n (ap (λ x. x / 64) e))))

pub insert_other : (t : List ℕ) (p q j : ℕ) → q < 256 → j ≢ p → set_at (insert_at t (4 * p) q) (4 * j) ≡ set_at t (4 * j)
unfolding insert_at
insert_other t p q j l h =
    sets_by_words _ t (4 * j) (4 * j)
    (λ i m.
    get_or-set_other t (4 * p + q / 64) (4 * j + i) _ 0
    (λ e. ⊎_elim (λ (g : 4 * j + 4 ≤ 4 * p). omega arith) (λ (g : 4 * p + 4 ≤ 4 * j). omega arith) (apart j p h)))

-- a row put behind the others
pub entries_put : (t : List ℕ) (n : ℕ) (s : List ℕ) → 4 * n + 4 ≤ length t → entries (put_at t (4 * n) s 0) (n + 1) ≡ entries t n ++ set_at s 0 ∷ []
unfolding entries
entries_put t n s b =
    rw add-one
    (tabulate_end n _ ∙ ap₂ (λ T S. T ++ S ∷ []) (tabulate_ext n _ _ (λ j l. put_other t n s 0 j (omega arith))) (put_same t (4 * n) s 0 b))
