-- A queue of pairs and the table of their numbers: what one pair more changes, and what is left to be met.
use Prim.Native.Nat.{ℕ, ◌+◌, ◌*◌, ◌/◌, ◌%◌, ◌≤◌, ◌<◌}
use mathlib.Core.Bool.{Bool, true, false, cond}
use Rattle.std.proofs.Common.{Option, Some, None, is_some}
use mathlib.Core.List.{List, [], ◌∷◌, ◌++◌, map, map-append}
use mathlib.Core.Logic.{⊎_elim}
use mathlib.Core.Path.{◌≡◌, refl, sym, ◌∙◌, ap, subst}
use native.Mathlib.Numerals.{add-one}
use native.Mathlib.Omega.{arith}
use borrow.Author.Rules.{rules}
use borrow.Author.Tests.{ltb-true, ltb-false}
use lib.Dec.{ltb}
use lib.ListN.{get_or, length, take, set, length-set, length-append, length-map}
use lib.Seq.{get_or-take, get_or-set_same, get_or-set_other, length-take-le, take_all, take-suc-set}
use Rattle.lists.specs.Lists.{◌∈◌}
use Rattle.lists.proofs.Lists.{map_at}
use Rattle.lists.proofs.Members.{at_in, distinct_end}
use Rattle.lists.proofs.Tests.{test}
use Rattle.search.specs.Search.{meet}
use Rattle.search.proofs.Tables.{add_known, add_new, meet_append, meet_full, meet_capped, index_lt}
use Rattle.automata.specs.Pairs.{Pair, same_pair}
use Rattle.product.specs.Product.{place_in}
use Rattle.product.specs.inner.Tables.{pair_of, table_of, number_in, capped, Queued, PairsMet}
use Rattle.automata.proofs.Pairs.{pair_decides}

pub length_table : (queue : List ℕ) (n : ℕ) → n ≤ length queue → length (table_of queue n) ≡ n
unfolding table_of
length_table queue n h = length-map (take n queue) pair_of ∙ length-take-le n queue h

pub queued_room : (queue t : List ℕ) (n : ℕ) → Queued queue t n → n ≤ length queue
queued_room queue t n k = omega (arith, k.room, k.few)

-- the pair with the number i
pub entry_at : (words : List ℕ) (n i : ℕ) (d : Pair) → n ≤ length words → i < n → get_or (table_of words n) i d ≡ pair_of (get_or words i 0)
unfolding table_of
entry_at words n i d l h = map_at pair_of (take n words) i 0 d (rw (length-take-le n words l) h) ∙ ap pair_of (get_or-take n words i 0 h)

pub entry_in : (words : List ℕ) (n i : ℕ) → n ≤ length words → i < n → pair_of (get_or words i 0) ∈ table_of words n
entry_in words n i l h =
    subst (λ (p : Pair). p ∈ table_of words n) (entry_at words n i (pair_of (get_or words i 0)) l h) (at_in (table_of words n) i (pair_of (get_or words i 0)) (rw (length_table words n l) h))

-- the pair of a word
pub word_pair : (p q : ℕ) → q < 256 → pair_of (p * 256 + q) ≡ record { left = p; right = q }
word_pair p q h =
    let l : (p * 256 + q) / 256 ≡ p = omega arith in
    let r : (p * 256 + q) % 256 ≡ q = omega arith in
    rw (l, r)

capped_few : (T : List Pair) → length T ≤ 257 → capped T ≡ T
unfolding capped
capped_few T h = take_all 257 T h

table_capped : (queue t : List ℕ) (n : ℕ) → Queued queue t n → capped (table_of queue n) ≡ table_of queue n
table_capped queue t n k = capped_few (table_of queue n) (omega (arith, length_table queue n (queued_room queue t n k), k.few))

-- the table has a number for a pair where the pair is in it
number_some : (T : List Pair) (p : Pair) → is_some (number_in T p) ≡ ltb (place_in T p) (length T)
unfolding number_in
number_some T p = by_test (ltb (place_in T p) (length T))
  where
    by_test : (b : Bool) → is_some (cond b (Some (place_in T p)) None) ≡ b
    by_test true = refl
    by_test false = refl

-- one pair
module _ (queue t : List ℕ) (n p q : ℕ) (k : Queued queue t n) (hq : q < 256) where
  count : length (table_of queue n) ≡ n
  count = length_table queue n (queued_room queue t n k)

  pub pair_full : 256 < n → PairsMet (table_of queue n) (record { left = p; right = q } ∷ []) queue t n
  unfolding capped
  pair_full h = record { queued = k; table = sym (meet_full same_pair 257 (record { left = p; right = q } ∷ []) (table_of queue n) (omega (arith, count, k.few))) }

  module _ (l : n ≤ 256) (o : Option ℕ) (e : o ≡ number_in (table_of queue n) (pair_of (p * 256 + q))) where
    known : is_some o ≡ ltb (place_in (table_of queue n) (record { left = p; right = q })) (length (table_of queue n))
    known = rw (e, word_pair p q hq) (number_some (table_of queue n) (record { left = p; right = q }))

    pub pair_known : is_some o ≡ true → PairsMet (table_of queue n) (record { left = p; right = q } ∷ []) queue t n
    unfolding meet
    pair_known h =
        record {
          queued = k;
          table = sym (ap capped (add_known same_pair (record { left = p; right = q }) (table_of queue n) (ltb-true _ _ (sym known ∙ h))) ∙ table_capped queue t n k);
        }

    module _ (h : is_some o ≡ false) where
      far : length (table_of queue n) ≤ place_in (table_of queue n) (record { left = p; right = q })
      far = ltb-false _ _ (sym known ∙ h)

      taken : take (n + 1) (set queue n (p * 256 + q)) ≡ take n queue ++ (p * 256 + q) ∷ []
      taken = ap (λ m. take m (set queue n (p * 256 + q))) (add-one n) ∙ take-suc-set queue n (p * 256 + q) (omega (arith, k.room))

      grown : table_of (set queue n (p * 256 + q)) (n + 1) ≡ table_of queue n ++ record { left = p; right = q } ∷ []
      unfolding table_of
      grown = ap (map pair_of) taken ∙ map-append pair_of (take n queue) _ ∙ ap (λ x. map pair_of (take n queue) ++ x ∷ []) (word_pair p q hq)

      met : (u : List ℕ) → length u ≡ length t → (n + 1 ≤ 256 → (i : ℕ) → i < n + 1 → get_or u (get_or (set queue n (p * 256 + q)) i 0) 0 ≡ i)
          → PairsMet (table_of queue n) (record { left = p; right = q } ∷ []) (set queue n (p * 256 + q)) u (n + 1)
      unfolding meet
      met u w f =
          record {
            queued = record {
              room = length-set queue n _ ∙ k.room;
              bytes = omega (arith, w, k.bytes);
              few = omega arith;
              distinct = rw grown (distinct_end (record { left = p; right = q }) (table_of queue n) k.distinct (λ m. let near = index_lt same_pair pair_decides (record { left = p; right = q }) m in omega (arith, far)));
              numbered = f;
            };
            table = grown ∙ sym (ap capped (add_new same_pair (record { left = p; right = q }) (table_of queue n) far)
                ∙ capped_few _ (omega (arith, length-append (table_of queue n) (record { left = p; right = q } ∷ []), count)));
          }

      pub pair_last : 256 ≤ n → PairsMet (table_of queue n) (record { left = p; right = q } ∷ []) (set queue n (p * 256 + q)) t (n + 1)
      pair_last g = met t refl (λ f. absurd (omega arith))

      -- no word before the n-th is that of the pair
      other : (i : ℕ) → i < n → get_or queue i 0 ≡ p * 256 + q → ⊥
      other i b e =
          let m = entry_in queue n i (queued_room queue t n k) b in
          let near = index_lt same_pair pair_decides (record { left = p; right = q }) (rw (e, word_pair p q hq) at m) in
          omega (arith, far, count)

      numbers : p < length t / 256 → (i : ℕ) → i < n + 1 → get_or (set t (p * 256 + q) n) (get_or (set queue n (p * 256 + q)) i 0) 0 ≡ i
      numbers r i b =
          ⊎_elim
          (λ (z : ltb i n ≡ true).
          let b = ltb-true i n z in
          ap (λ x. get_or (set t (p * 256 + q) n) x 0) (get_or-set_other queue n i (p * 256 + q) 0 (λ e. omega arith))
          ∙ get_or-set_other t (p * 256 + q) (get_or queue i 0) n 0 (other i b) ∙ k.numbered l i b)
          (λ (z : ltb i n ≡ false).
          let g = ltb-false i n z in
          let e : i ≡ n = omega arith in
          rw e
          (ap (λ x. get_or (set t (p * 256 + q) n) x 0) (get_or-set_same queue n (p * 256 + q) 0 (omega (arith, k.room)))
          ∙ get_or-set_same t (p * 256 + q) n 0 (omega arith)))
          (test (ltb i n))

      pub pair_new : p < length t / 256 → PairsMet (table_of queue n) (record { left = p; right = q } ∷ []) (set queue n (p * 256 + q)) (set t (p * 256 + q) n) (n + 1)
      pair_new r = met (set t (p * 256 + q) n) (length-set t (p * 256 + q) n) (λ f. numbers r)

pub ruleset pair_laws = (pair_full, pair_known, pair_last, pair_new, rules)

-- no pair, and pairs one after the other
module _ (queue t : List ℕ) (n : ℕ) (k : Queued queue t n) where
  pub met_none : PairsMet (table_of queue n) [] queue t n
  unfolding meet
  met_none = record { queued = k; table = sym (table_capped queue t n k) }

capped_append : (xs ys T U : List Pair) → U ≡ capped (meet same_pair xs T) → capped (meet same_pair ys U) ≡ capped (meet same_pair (xs ++ ys) T)
unfolding capped
capped_append xs ys T U e = ap (λ l. take 257 (meet same_pair ys l)) e ∙ meet_capped same_pair 257 ys (meet same_pair xs T) ∙ ap (take 257) (sym (meet_append same_pair xs ys T))

-- the table with what is left to be met
unfoldable pub met_with : List ℕ → ℕ → List Pair → List Pair
met_with queue n ps = capped (meet same_pair ps (table_of queue n))

module _ (queue t : List ℕ) (n : ℕ) (k : Queued queue t n) (old ps : List Pair) where
  pub met_ended : met_with queue n [] ≡ capped (meet same_pair ps old) → PairsMet old ps queue t n
  unfolding met_with meet
  met_ended e = record { queued = k; table = sym (table_capped queue t n k) ∙ e }

  pub met_full : 256 < n → (qs : List Pair) → met_with queue n qs ≡ capped (meet same_pair ps old) → PairsMet old ps queue t n
  unfolding met_with capped
  met_full h qs e =
      record { queued = k; table = sym (meet_full same_pair 257 qs (table_of queue n) (omega (arith, length_table queue n (queued_room queue t n k), k.few))) ∙ e }

pub met_next : (queue queue' t' : List ℕ) (n m : ℕ) (ps qs : List Pair) → PairsMet (table_of queue n) ps queue' t' m → met_with queue' m qs ≡ met_with queue n (ps ++ qs)
unfolding met_with
met_next queue queue' t' n m ps qs r = capped_append ps qs (table_of queue n) (table_of queue' m) r.table
