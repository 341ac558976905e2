-- Laws of the number of a pair: the table names it, and the queue confirms it.
use Prim.Native.Nat.{ℕ, ◌+◌, ◌*◌, ◌/◌, ◌%◌, ◌≤◌, ◌<◌}
use mathlib.Core.Bool.{true, false}
use Rattle.std.proofs.Common.{Option, Some, None, unwrap_or}
use mathlib.Core.List.{List}
use mathlib.Core.Logic.{⊎_elim}
use mathlib.Core.Path.{◌≡◌, refl, sym, ◌∙◌, ap}
use native.Mathlib.Omega.{arith}
use mir.Syntax.{w8, w32, w64}
use mir.Val.{Fits}
use borrow.Author.Rules.{rules}
use borrow.Author.Tests.{ltb-true, ltb-false, lt-ltb}
use lib.Dec.{ltb}
use lib.ListN.{get_or, length}
use Rattle.lists.proofs.Tests.{test}
use Rattle.search.proofs.Tables.{index_in, index_at, index_place}
use Rattle.automata.specs.Pairs.{Pair, same_pair}
use Rattle.lists.proofs.Index.{index_le}
use Rattle.product.specs.Product.{place_in}
use Rattle.product.specs.inner.Tables.{pair_of, table_of, number_in, Queued}
use Rattle.automata.proofs.Pairs.{pair_decides}
use Rattle.product.proofs.Queueing.{length_table, entry_at, queued_room, word_pair}

-- the number of the word c among the first n words of the queue
module _ (queue t : List ℕ) (n : ℕ) (k : Queued queue t n) (f : n ≤ 256) (c : ℕ) where
  inside : n ≤ length queue
  inside = queued_room queue t n k

  -- the word c at a place, and the place at which it is
  place : (j : ℕ) → j < n → get_or queue j 0 ≡ c → j ≡ place_in (table_of queue n) (pair_of c)
  place j h e =
      sym (index_place same_pair pair_decides (pair_of c) k.distinct j (omega (arith, length_table queue n inside)))
      ∙ ap (place_in (table_of queue n)) (entry_at queue n j (pair_of c) inside h ∙ ap pair_of e)

  word : place_in (table_of queue n) (pair_of c) < n → get_or queue (place_in (table_of queue n) (pair_of c)) 0 ≡ c
  word h =
      let m = index_in same_pair pair_decides (pair_of c) (table_of queue n) (omega (arith, length_table queue n inside)) in
      let e : pair_of (get_or queue (place_in (table_of queue n) (pair_of c)) 0) ≡ pair_of c =
      sym (entry_at queue n (place_in (table_of queue n) (pair_of c)) (pair_of c) inside h) ∙ index_at same_pair pair_decides (pair_of c) (pair_of c) (table_of queue n) m in
      let x : get_or queue (place_in (table_of queue n) (pair_of c)) 0 / 256 ≡ c / 256 = ap (λ (p : Pair). p.left) e in
      let y : get_or queue (place_in (table_of queue n) (pair_of c)) 0 % 256 ≡ c % 256 = ap (λ (p : Pair). p.right) e in
      omega arith

  -- the table names the place of each word of the queue
  named : place_in (table_of queue n) (pair_of c) < n → get_or t c 0 ≡ place_in (table_of queue n) (pair_of c)
  named h = ap (λ x. get_or t x 0) (sym (word h)) ∙ k.numbered f (place_in (table_of queue n) (pair_of c)) h

  none : (place_in (table_of queue n) (pair_of c) < n → ⊥) → None ≡ number_in (table_of queue n) (pair_of c)
  unfolding number_in
  none h =
      ⊎_elim (λ (q : ltb (place_in (table_of queue n) (pair_of c)) (length (table_of queue n)) ≡ true).
      let l : place_in (table_of queue n) (pair_of c) < length (table_of queue n) = ltb-true _ _ q in
      absurd (h (omega (arith, length_table queue n inside))))
      (λ (q : ltb (place_in (table_of queue n) (pair_of c)) (length (table_of queue n)) ≡ false). rw q refl)
      (test (ltb (place_in (table_of queue n) (pair_of c)) (length (table_of queue n))))

  pub find_past : n ≤ get_or t c 0 → None ≡ number_in (table_of queue n) (pair_of c)
  find_past l = none (λ h. omega (arith, named h))

  pub find_other : (get_or queue (get_or t c 0) 0 ≡ c → ⊥) → None ≡ number_in (table_of queue n) (pair_of c)
  find_other o = none (λ h. o (ap (λ j. get_or queue j 0) (named h) ∙ word h))

  pub find_found : get_or t c 0 < n → get_or queue (get_or t c 0) 0 ≡ c → Some (get_or t c 0) ≡ number_in (table_of queue n) (pair_of c)
  unfolding number_in
  find_found h e =
      let p = place (get_or t c 0) h e in
      rw (← p, lt-ltb (get_or t c 0) (length (table_of queue n)) (omega (arith, length_table queue n inside))) refl

-- a byte of the table as a place in the queue
pub byte_fits : (t : List ℕ) (i : ℕ) → ((j : ℕ) → Fits w8 (get_or t j 0)) → Fits w64 (get_or t i 0)
byte_fits t i f = record { fits = omega (arith, (f i).fits) }

pub ruleset find_laws = (find_past, find_other, find_found, rules)

-- the number of a pair that the table has, and the table's length for another
number_or : (T : List Pair) (p : Pair) → unwrap_or (number_in T p) (length T) ≡ place_in T p
unfolding number_in
number_or T p =
    ⊎_elim (λ (z : ltb (place_in T p) (length T) ≡ true). rw z refl)
    (λ (z : ltb (place_in T p) (length T) ≡ false). let l : length T ≤ place_in T p = ltb-false _ _ z in rw z (omega (arith, index_le same_pair p T)))
    (test (ltb (place_in T p) (length T)))

module _ (queue t : List ℕ) (n : ℕ) (k : Queued queue t n) (f : n ≤ 256) (p q r : ℕ) (o : Option ℕ) (e : o ≡ number_in (table_of queue n) (pair_of (p * 256 + q))) (u : r ≡ unwrap_or o n) where
  numbered : r ≡ place_in (table_of queue n) (pair_of (p * 256 + q))
  numbered =
      u ∙ ap (λ x. unwrap_or x n) e ∙ ap (unwrap_or (number_in (table_of queue n) (pair_of (p * 256 + q)))) (sym (length_table queue n (queued_room queue t n k)))
      ∙ number_or (table_of queue n) (pair_of (p * 256 + q))

  pub number_fits : Fits w32 r
  number_fits = record { fits = omega (arith, numbered, index_le same_pair (pair_of (p * 256 + q)) (table_of queue n), length_table queue n (queued_room queue t n k)) }

  pub number_is : q < 256 → r ≡ place_in (table_of queue n) (record { left = p; right = q })
  number_is h = numbered ∙ ap (place_in (table_of queue n)) (word_pair p q h)

pub ruleset number_laws = (number_fits, number_is, rules)
