-- Laws of the places by which a set is found: where a search starts, what a place that it looks at says, and what a set that is added changes.
use Prim.Native.Nat.{ℕ, zero, suc, ◌+◌, ◌-◌, ◌*◌, ◌/◌, ◌%◌, ◌^◌, ◌≤◌, ◌<◌}
use mathlib.Core.Bool.{Bool, true, false, cond, false≢true}
use mathlib.Core.List.{List, [], ◌∷◌, ◌++◌}
use mathlib.Core.Logic.{◌⊎◌, inl, inr, ⊎_elim}
use mathlib.Core.Path.{◌≡◌, refl, sym, ◌∙◌, ap, ap₂}
use native.Mathlib.Nat.{add_comm, add-mul, add-mul-mod_self_left, mul_comm, mul-add, mul_assoc, pow-succ', eq-or-lt_of_le}
use native.Mathlib.Omega.{arith}
use borrow.Author.Tests.{eqb-true, eqb-false, ltb-true, ltb-false, lt-ltb}
use lib.Dec.{eqb, ltb}
use lib.ListN.{get_or, set, length, length-set, length-append, length-replicate, replicate, get_or-append}
use lib.Seq.{get_or-append_seam, get_or-set_same, get_or-set_other}
use Rattle.lists.specs.Lists.{filter, tabulate}
use Rattle.lists.specs.Index.{index, same}
use Rattle.lists.proofs.Lists.{blank_at}
use Rattle.lists.proofs.Index.{index_le, index_before, index_at, index_in, same_decides, same_equal, equal_same}
use Rattle.lists.proofs.Tests.{test}
use Rattle.sets.specs.Sets.{Set, pick_from}
use Rattle.sets.specs.inner.BitSet.{bit, in_words, set_at, entries}
use Rattle.sets.specs.inner.Words.{put_at}
use Rattle.sets.specs.inner.Places.{bits_number, place_after, Passed, Reached, Placed, SearchEnded}
use Rattle.sets.proofs.Bits.{bit_zero, bit_suc}
use Rattle.sets.proofs.BitSet.{entry_at, length_entries}
use Rattle.sets.proofs.Steps.{Small}
use Rattle.sets.proofs.Tables.{index_end}
use Rattle.sets.proofs.Stores.{entries_put}

-- the number of a set that is held by words
bits_append : (S T : Set) → bits_number (S ++ T) ≡ bits_number S + bits_number T
unfolding bits_number
bits_append [] T = omega arith
bits_append (q ∷ S) T = let h = bits_append S T in omega (arith, h)

pick_parts : (k m n : ℕ) (P : ℕ → Bool) → pick_from k (m + n) P ≡ pick_from k m P ++ pick_from (k + m) n P
unfolding pick_from
pick_parts k zero n P = let z : k + 0 ≡ k = omega arith in let y : 0 + n ≡ n = omega arith in rw (z, y)
pick_parts k (suc m) n P =
    let z : suc m + n ≡ suc (m + n) = omega arith in
    let y : k + suc m ≡ suc k + m = omega arith in
    rw (z, y, pick_parts (suc k) m n P) (go (P k))
  where
    go : (b : Bool) → cond b (k ∷ pick_from (suc k) m P ++ pick_from (suc k + m) n P) (pick_from (suc k) m P ++ pick_from (suc k + m) n P)
        ≡ cond b (k ∷ pick_from (suc k) m P) (pick_from (suc k) m P) ++ pick_from (suc k + m) n P
    go true = refl
    go false = refl

halves : (x w : ℕ) → cond (eqb (w % 2) 1) x 0 + 2 * x * (w / 2) ≡ x * w
halves x w =
    ⊎_elim
    (λ (t : eqb (w % 2) 1 ≡ true).
    let e = eqb-true (w % 2) 1 t in
    let d : w ≡ 1 + 2 * (w / 2) = omega arith in
    let m : x * w ≡ x * 1 + x * (2 * (w / 2)) = ap (λ v. x * v) d ∙ mul-add x 1 (2 * (w / 2)) in
    rw t (omega (arith, m, assoc)))
    (λ (t : eqb (w % 2) 1 ≡ false).
    let e = eqb-false (w % 2) 1 t in
    let d : w ≡ 2 * (w / 2) = even e in
    let m : x * w ≡ x * (2 * (w / 2)) = ap (λ v. x * v) d in
    rw t (omega (arith, m, assoc)))
    (test (eqb (w % 2) 1))
  where
    assoc : 2 * x * (w / 2) ≡ x * (2 * (w / 2))
    assoc = ap (λ v. v * (w / 2)) (mul_comm 2 x) ∙ mul_assoc x 2 (w / 2)

    even : (w % 2 ≡ 1 → ⊥) → w ≡ 2 * (w / 2)
    even e = omega arith

bits_word : (k n w : ℕ) (P : ℕ → Bool) → w < 2 ^ n → ((i : ℕ) → i < n → P (k + i) ≡ bit w i) → bits_number (pick_from k n P) ≡ 2 ^ k * w
unfolding pick_from bits_number
bits_word k zero w P l h = let z : w ≡ 0 = omega arith in rw z (omega arith)
bits_word k (suc n) w P l h =
    let p = pow-succ' 2 n in
    let rest : bits_number (pick_from (suc k) n P) ≡ 2 ^ suc k * (w / 2) =
    bits_word (suc k) n (w / 2) P (omega arith) (λ i v. let z : suc k + i ≡ k + suc i = omega arith in rw z (h (suc i) (omega arith) ∙ bit_suc w i)) in
    let z : k + 0 ≡ k = omega arith in
    let first : P k ≡ eqb (w % 2) 1 = ap P (sym z) ∙ h 0 (omega arith) ∙ bit_zero w in
    ap (λ b. bits_number (cond b (k ∷ pick_from (suc k) n P) (pick_from (suc k) n P))) first
    ∙ go (eqb (w % 2) 1) ∙ ap (λ v. cond (eqb (w % 2) 1) (2 ^ k) 0 + v) (rest ∙ ap (λ v. v * (w / 2)) (pow-succ' 2 k)) ∙ halves (2 ^ k) w
  where
    go : (b : Bool) → bits_number (cond b (k ∷ pick_from (suc k) n P) (pick_from (suc k) n P)) ≡ cond b (2 ^ k) 0 + bits_number (pick_from (suc k) n P)
    go true = refl
    go false = omega arith

bits_part : (s : List ℕ) → Small s → (i : ℕ) → bits_number (pick_from (i * 64) 64 (in_words s 0)) ≡ 2 ^ (i * 64) * get_or s i 0
unfolding in_words
bits_part s h i =
    bits_word (i * 64) 64 (get_or s i 0) (in_words s 0) (h i).fits
    (λ k l.
    let c : (i * 64 + k) / 64 ≡ i = omega arith in
    let m : (i * 64 + k) % 64 ≡ k = omega arith in
    let z : 0 + i ≡ i = omega arith in
    rw (c, m, z))

bits_words : (s : List ℕ) → Small s → bits_number (set_at s 0) ≡ get_or s 0 0 + (2 ^ 64 * get_or s 1 0 + (2 ^ 128 * get_or s 2 0 + 2 ^ 192 * get_or s 3 0))
unfolding set_at
bits_words s h =
    ap bits_number (pick_parts 0 64 192 P ∙ ap (λ T. pick_from 0 64 P ++ T) (pick_parts 64 64 128 P ∙ ap (λ T. pick_from 64 64 P ++ T) (pick_parts 128 64 64 P)))
    ∙ bits_append (pick_from 0 64 P) _
    ∙ ap₂ ◌+◌ (bits_part s h 0 ∙ omega arith)
    (bits_append (pick_from 64 64 P) _ ∙ ap₂ ◌+◌ (bits_part s h 1) (bits_append (pick_from 128 64 P) _ ∙ ap₂ ◌+◌ (bits_part s h 2) (bits_part s h 3)))
  where
    P : ℕ → Bool
    P = in_words s 0

-- the remainders of the words give that of the set's number
multiple : (m r x : ℕ) → (509 * m + r) * x ≡ r * x + 509 * (m * x)
multiple m r x = add-mul (509 * m) r x ∙ add_comm (509 * m * x) (r * x) ∙ ap (λ y. r * x + y) (mul_assoc 509 m x)

pub start_words : (s : List ℕ) → Small s
    → (get_or s 0 0 % 509 + 302 * (get_or s 1 0 % 509) + 93 * (get_or s 2 0 % 509) + 91 * (get_or s 3 0 % 509)) % 509 ≡ place_after (set_at s 0) 0
unfolding place_after
start_words s h =
    go (get_or s 0 0) (get_or s 1 0) (get_or s 2 0) (get_or s 3 0) _ _ _ (bits_number (set_at s 0))
    (bits_words s h
    ∙ ap (λ x. get_or s 0 0 + x)
    (ap₂ ◌+◌ (multiple (2 ^ 64 / 509) 302 (get_or s 1 0))
    (ap₂ ◌+◌ (multiple (2 ^ 128 / 509) 93 (get_or s 2 0)) (multiple (2 ^ 192 / 509) 91 (get_or s 3 0)))))
  where
    go : (a b c d x y z n : ℕ) → n ≡ a + ((302 * b + 509 * x) + ((93 * c + 509 * y) + (91 * d + 509 * z)))
        → (a % 509 + 302 * (b % 509) + 93 * (c % 509) + 91 * (d % 509)) % 509 ≡ (n + 0) % 509
    go a b c d x y z n e =
        let r : ℕ = a % 509 + 302 * (b % 509) + 93 * (c % 509) + 91 * (d % 509) in
        let q : ℕ = a / 509 + 302 * (b / 509) + 93 * (c / 509) + 91 * (d / 509) + x + y + z in
        let h : n + 0 ≡ r + 509 * q = omega arith in
        sym (ap (λ m. m % 509) h ∙ add-mul-mod_self_left r 509 q)

-- the places that a search looks at
pub place_below : (S : Set) (d i : ℕ) → i ≡ place_after S d → i < 509
unfolding place_after
place_below S d i h = omega arith

pub place_next : (S : Set) (d i : ℕ) → i ≡ place_after S d → (i + 1) % 509 ≡ place_after S (d + 1)
unfolding place_after
place_next S d i h = omega arith

-- each place is looked at by a search that is long enough
place_any : (S : Set) (i : ℕ) → i < 509 → (e : ℕ) × (e < 509) × (place_after S e ≡ i)
unfolding place_after
place_any S i l = ((i + 509 - bits_number S % 509) % 509, omega arith, omega arith)

-- how many places are taken
taken_set : (p : List ℕ) (i v : ℕ) → length (filter (ltb 0) (set p i v)) ≤ suc (length (filter (ltb 0) p))
unfolding filter
taken_set [] i v = omega arith
taken_set (x ∷ p) zero v = go (ltb 0 v) (ltb 0 x)
  where
    go : (a b : Bool) → length (cond a (v ∷ filter (ltb 0) p) (filter (ltb 0) p)) ≤ suc (length (cond b (x ∷ filter (ltb 0) p) (filter (ltb 0) p)))
    go true true = omega arith
    go true false = omega arith
    go false true = omega arith
    go false false = omega arith
taken_set (x ∷ p) (suc i) v = go (ltb 0 x) (taken_set p i v)
  where
    go : (b : Bool) → length (filter (ltb 0) (set p i v)) ≤ suc (length (filter (ltb 0) p))
        → length (cond b (x ∷ filter (ltb 0) (set p i v)) (filter (ltb 0) (set p i v))) ≤ suc (length (cond b (x ∷ filter (ltb 0) p) (filter (ltb 0) p)))
    go true h = omega arith
    go false h = h

taken_all : (p : List ℕ) → ((i : ℕ) → i < length p → 0 < get_or p i 0) → length (filter (ltb 0) p) ≡ length p
unfolding filter
taken_all [] h = refl
taken_all (x ∷ p) h = rw (lt-ltb 0 x (h 0 (omega arith))) (ap suc (taken_all p (λ i l. h (suc i) (omega arith))))

module _ (p : List ℕ) (T : List Set) (placed : Placed p T) (S : Set) (d : ℕ) (passed : Passed p T S d) where
  -- a search comes to a free place or to the set, since the table has fewer sets than there are places
  pub search_room : length T < 509 → d < 509
  search_room few = ⊎_elim (λ t. ltb-true d 509 t) (λ t. absurd (full (ltb-false d 509 t))) (test (ltb d 509))
    where
      full : 509 ≤ d → ⊥
      full l =
          let all = taken_all p (λ i v. let q = place_any S i (omega (arith, placed.long)) in rw q.2 at (passed.taken q.0 (omega (arith, q.1)))) in
          omega (arith, all, placed.few, placed.long, few)

  -- at a free place it is known that the table lacks the set
  pub search_absent : get_or p (place_after S d) 0 ≡ 0 → index same S T ≡ length T
  search_absent free =
      ⊎_elim (λ t. absurd (held (ltb-true (index same S T) (length T) t))) (λ t. omega (arith, ltb-false (index same S T) (length T) t, index_le same S T))
      (test (ltb (index same S T) (length T)))
    where
      held : index same S T < length T → ⊥
      held l =
          let e : get_or T (index same S T) [] ≡ S = index_at same same_decides [] S T (index_in same same_decides S T l) in
          let r = placed.reached (index same S T) l in
          let here : get_or p (place_after S r.distance) 0 ≡ suc (index same S T) = ap (λ X. get_or p (place_after X r.distance) 0) (sym e) ∙ r.here in
          ⊎_elim (λ t. passed.other r.distance (index same S T) (ltb-true r.distance d t) here e)
          (λ t.
          ⊎_elim (λ (q : d ≡ r.distance). let z = ap (λ x. get_or p (place_after S x) 0) q in omega (arith, z, free, here))
          (λ (q : d < r.distance). let v = rw e at (r.taken d q) in omega (arith, v, free))
          (eq-or-lt_of_le (ltb-false r.distance d t)))
          (test (ltb r.distance d))

-- a place that holds a set which is not S
pub search_next : (p : List ℕ) (T : List Set) (S : Set) (d j : ℕ) → Passed p T S d → get_or p (place_after S d) 0 ≡ suc j → (get_or T j [] ≡ S → ⊥) → Passed p T S (d + 1)
search_next p T S d j passed held differs =
    record {
      taken = λ e l. ⊎_elim (λ (q : e ≡ d). let z = ap (λ x. get_or p (place_after S x) 0) q in omega (arith, z, held)) (λ (q : e < d). passed.taken e q) (before e l);
      other = λ e i l g f.
          ⊎_elim
          (λ (q : e ≡ d).
          let z = ap (λ x. get_or p (place_after S x) 0) q in
          let y : i ≡ j = omega (arith, z, held, g) in
          differs (ap (λ x. get_or T x []) (sym y) ∙ f))
          (λ (q : e < d). passed.other e i q g f)
          (before e l);
    }
  where
    before : (e : ℕ) → e < d + 1 → (e ≡ d) ⊎ (e < d)
    before e l = eq-or-lt_of_le (omega arith)

-- a set that is added behind the others
module _ (p : List ℕ) (T : List Set) (S : Set) (i k : ℕ) (placed : Placed p T) (ended : SearchEnded p T S i k) (absent : index same S T ≡ length T) where
  free : get_or p i 0 ≡ 0
  free = ⊎_elim (λ h. h.0) (λ h. let l = (placed.number i (index same S T) h.0).0 in absurd (omega (arith, l, absent))) ended.last

  inside : i < length p
  inside = let b = place_below S ended.distance i ended.place in omega (arith, b, placed.long)

  abbrev after : List ℕ
  after = set p i (suc (length T))

  abbrev table : List Set
  table = T ++ S ∷ []

  longer : length table ≡ suc (length T)
  longer = let h = length-append T (S ∷ []) in omega (arith, h)

  -- a place that is taken stays as it is
  kept : (x v : ℕ) → get_or p x 0 ≡ suc v → get_or after x 0 ≡ suc v
  kept x v h = get_or-set_other p i x (suc (length T)) 0 (λ e. let z = ap (λ y. get_or p y 0) e in omega (arith, z, h, free)) ∙ h

  still : (x : ℕ) → 0 < get_or p x 0 → 0 < get_or after x 0
  still x h = let z : get_or p x 0 ≡ suc (get_or p x 0 - 1) = omega arith in omega (arith, kept x (get_or p x 0 - 1) z)

  old : (j : ℕ) → j < length T → get_or table j [] ≡ get_or T j []
  old j l = get_or-append T (S ∷ []) [] j l

  new : (j : ℕ) → j ≡ length T → get_or table j [] ≡ S
  new j e = ap (λ x. get_or table x []) e ∙ get_or-append_seam T S [] []

  index_new : index same S table ≡ length T
  index_new = index_end S T (omega (arith, absent))

  numbers : (x j : ℕ) → get_or after x 0 ≡ suc j → (j < length table) × (index same (get_or table j []) table ≡ j)
  numbers x j h = ⊎_elim (λ t. at_place (eqb-true x i t)) (λ t. elsewhere (eqb-false x i t)) (test (eqb x i))
    where
      at_place : x ≡ i → (j < length table) × (index same (get_or table j []) table ≡ j)
      at_place e =
          let v = ap (λ y. get_or after y 0) e ∙ get_or-set_same p i (suc (length T)) 0 inside in
          let z : j ≡ length T = omega (arith, v, h) in
          (omega (arith, z, longer), ap (λ R. index same R table) (new j z) ∙ index_new ∙ sym z)

      elsewhere : (x ≡ i → ⊥) → (j < length table) × (index same (get_or table j []) table ≡ j)
      elsewhere f =
          let o = placed.number x j (sym (get_or-set_other p i x (suc (length T)) 0 f) ∙ h) in
          (omega (arith, o.0, longer), ap (λ R. index same R table) (old j o.0) ∙ index_before same (get_or T j []) T (S ∷ []) (omega (arith, o.0, o.1)) ∙ o.1)

  reaches : (j : ℕ) → j < length table → Reached after table j
  reaches j h = ⊎_elim (λ t. known (ltb-true j (length T) t)) (λ t. added (omega (arith, ltb-false j (length T) t, longer))) (test (ltb j (length T)))
    where
      known : j < length T → Reached after table j
      known l =
          let r = placed.reached j l in
          let e = old j l in
          record {
            distance = r.distance;
            here = ap (λ R. get_or after (place_after R r.distance) 0) e ∙ kept _ j r.here;
            taken = λ x v. rw e (still _ (r.taken x v));
          }

      added : j ≡ length T → Reached after table j
      added z =
          let e = new j z in
          record {
            distance = ended.distance;
            here = ap₂ (λ R y. get_or after (place_after R y) 0) e refl ∙ ap (λ y. get_or after y 0) (sym ended.place) ∙ get_or-set_same p i (suc (length T)) 0 inside ∙ ap suc (sym z);
            taken = λ x v. rw e (still _ (ended.passed.taken x v));
          }

  pub placed_more : Placed after table
  placed_more =
      record {
        long = length-set p i (suc (length T)) ∙ placed.long;
        few = omega (arith, taken_set p i (suc (length T)), placed.few, longer);
        number = numbers;
        reached = reaches;
      }

-- the places of no set
pub placed_none : Placed (replicate 509 0) []
unfolding filter
placed_none =
    record {
      long = length-replicate {A = ℕ} 509 0;
      few = none 509;
      number = λ i j h. absurd (let z = blank_at 509 i in omega (arith, z, h));
      reached = λ j h. absurd (omega arith);
    }
  where
    none : (n : ℕ) → length (filter (ltb 0) (replicate {A = ℕ} n 0)) ≤ 0
    none zero = omega arith
    none (suc n) = none n

-- a search through the places p of the first n rows of t, which has passed d of them and looks at the place i
module _ (t s p : List ℕ) (n d i held : ℕ) (placed : Placed p (entries t n)) (passed : Passed p (entries t n) (set_at s 0) d)
    (here : i ≡ place_after (set_at s 0) d) (holds : held ≡ get_or p i 0) where
  at_place : held ≡ get_or p (place_after (set_at s 0) d) 0
  at_place = holds ∙ ap (λ x. get_or p x 0) here

  module _ (some : held ≡ 0 → ⊥) where
    next : get_or p (place_after (set_at s 0) d) 0 ≡ suc (held - 1)
    next = omega (arith, at_place, some)

    pub held_row : held - 1 < n
    held_row = let l = (placed.number _ (held - 1) next).0 in omega (arith, l, length_entries t n)

    row : get_or (entries t n) (held - 1) [] ≡ set_at t (4 * (held - 1))
    row = entry_at t n (held - 1) held_row

    module _ (b : Bool) (compared : b ≡ same (set_at s 0) (set_at t (4 * (held - 1)))) where
      pub search_number : b ≡ true → held - 1 ≡ index same (set_at s 0) (entries t n)
      search_number h =
          let e : set_at s 0 ≡ get_or (entries t n) (held - 1) [] = same_equal _ _ (sym compared ∙ h) ∙ sym row in
          sym (ap (λ S. index same S (entries t n)) e ∙ (placed.number _ (held - 1) next).1)

      pub search_found : b ≡ true → SearchEnded p (entries t n) (set_at s 0) i (d + 1)
      search_found h =
          let e = search_number h in
          record { distance = d; place = here; passed = passed; last = inr (ap (λ x. get_or p x 0) here ∙ next ∙ ap suc e, omega arith) }

      pub search_passed : b ≡ false → Passed p (entries t n) (set_at s 0) (d + 1)
      search_passed h =
          search_next p (entries t n) (set_at s 0) d (held - 1) passed next
          (λ e. false≢true (sym h ∙ compared ∙ equal_same _ _ (sym e ∙ row)))

  module _ (none : held ≡ 0) where
    pub search_none : n ≡ index same (set_at s 0) (entries t n)
    search_none = let h = search_absent p (entries t n) placed (set_at s 0) d passed (omega (arith, at_place, none)) in omega (arith, h, length_entries t n)

    pub search_free : SearchEnded p (entries t n) (set_at s 0) i d
    search_free = record { distance = d; place = here; passed = passed; last = inl (omega (arith, holds, none), refl) }

pub search_begins : (p : List ℕ) (T : List Set) (S : Set) → Passed p T S 0
search_begins p T S = record { taken = λ e l. absurd (omega arith); other = λ e j l h f. absurd (omega arith) }

-- the first row of a table, and a row behind the others
pub first_placed : (p t : List ℕ) (i : ℕ) → p ≡ replicate 509 0 → i ≡ place_after (set_at t 0) 0 → Placed (set p i 1) (entries t 1)
unfolding index entries tabulate
first_placed p t i h e =
    rw h
    (placed_more (replicate 509 0) [] (set_at t 0) i 0 placed_none
    (record { distance = 0; place = e; passed = search_begins _ _ _; last = inl (blank_at 509 i, refl) })
    refl)

pub ended_below : (p : List ℕ) (T : List Set) (S : Set) (i k : ℕ) → SearchEnded p T S i k → i < 509
ended_below p T S i k e = place_below S e.distance i e.place

pub add_placed : (p t s u v : List ℕ) (n i k : ℕ) → Placed p (entries t n) → SearchEnded p (entries t n) (set_at s 0) i k → n ≡ index same (set_at s 0) (entries t n)
    → 4 * n + 4 ≤ length t → u ≡ put_at t (4 * n) s 0 → v ≡ set p i (n + 1) → Placed v (entries u (n + 1))
add_placed p t s u v n i k placed ended absent room f g =
    let l = length_entries t n in
    let z : suc (length (entries t n)) ≡ n + 1 = omega (arith, l) in
    rw (f, g, entries_put t n s room, sym z) (placed_more p (entries t n) (set_at s 0) i k placed ended (omega (arith, absent, l)))
