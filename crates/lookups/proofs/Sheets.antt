-- What the functions that write records, and those that write sheets, are asked. Assumes nothing.
use Prim.Native.Nat.{ℕ, zero, suc, ◌+◌, ◌-◌, ◌*◌, ◌/◌, ◌%◌, ◌^◌, ◌≤◌, ◌<◌}
use mathlib.Core.List.{List, [], ◌∷◌, ◌++◌, append_assoc}
use mathlib.Core.Path.{◌≡◌, refl, sym, ap, ◌∙◌}
use native.Mathlib.Omega.{arith}
use native.Mathlib.Numerals.{add-one}
use borrow.Author.Rules.{rules}
use borrow.Author.Tests.{eq-eqb, ne_eqb}
use mir.Syntax.{w8, w64}
use mir.Val.{Fits}
use lib.Dec.{lit<}
use lib.ListN.{length, take, replicate, length-append}
use lib.Pow.{shl_exact, pow_mono}
use Rattle.sets.specs.Sets.{Set}
use Rattle.sets.specs.inner.Places.{bits_number, place_after}
use Rattle.stores.specs.Written.{Written}
use Rattle.stores.proofs.Left.{Left, left_start, left_length, left_room, left_next, left_done}
use Rattle.stores.proofs.Written.{written_none, written_append}
use Rattle.output.proofs.Left.{front_written}
use Rattle.lookups.specs.Lookups.{links, chain, number, to_state, to_states, to_set, to_sets, colliding}

-- the power in the number of set k is not cut off, and the number fits
module _ (k : ℕ) (byte : Fits w8 k) where
  abbrev power : ℕ
  power = 1 * 2 ^ (14 + k / 8) % 2 ^ 64

  whole : power ≡ 2 ^ (14 + k / 8)
  whole = shl_exact {a = 1} 1 (14 + k / 8) 64 (lit< tt) (omega (arith, byte.fits)) ∙ omega arith

  small : 2 ^ (14 + k / 8) ≤ 2 ^ 45
  small = pow_mono {j = 45} (omega (arith, byte.fits))

  pub product_fits : Fits w64 (1018 * (power / 1018 + k % 8))
  product_fits = record { fits = omega (arith, whole, small) }

  pub sum_fits : Fits w64 (1018 * (power / 1018 + k % 8) + 1528)
  sum_fits = record { fits = omega (arith, whole, small) }

  pub number_is : 1018 * (power / 1018 + k % 8) + 1528 ≡ number k
  unfolding number
  number_is = ap (λ w. 1018 * (w / 1018 + k % 8) + 1528) whole

pub ruleset number_laws = (product_fits, sum_fits, number_is, rules)

length_links : (i m : ℕ) → length (links i m) ≡ 5 * m
unfolding links
length_links i zero = refl
length_links i (suc m) = let h = length_links (suc i) m in omega (arith, h)

-- the links: those from i on are left
module _ (l₀ l : List ℕ) (at m end i : ℕ) (p : Left l₀ at (links 0 m) l end (links i (m - i))) where
  link_here : i < m → links i (m - i) ≡ (i ∷ 1 ∷ 0 ∷ 0 ∷ (i + 1) ∷ []) ++ links (i + 1) (m - (i + 1))
  unfolding links
  link_here h = let z : m - i ≡ suc (m - suc i) = omega arith in rw (z, add-one)

  pub links_room : at + 5 * m ≤ length l₀ → i < m → end + 5 ≤ length l
  links_room room h =
      left_room _ _ _ _ _ _ p (i ∷ 1 ∷ 0 ∷ 0 ∷ (i + 1) ∷ []) (links (i + 1) (m - (i + 1))) (link_here h) (omega (arith, length_links 0 m, room))

  pub links_next : (l' : List ℕ) (end' : ℕ) → i < m → Written l end (i ∷ 1 ∷ 0 ∷ 0 ∷ (i + 1) ∷ []) l' end'
      → Left l₀ at (links 0 m) l' end' (links (i + 1) (m - (i + 1)))
  links_next l' end' h w = left_next _ _ _ _ _ _ p _ _ (link_here h) l' end' w

  pub links_done : m ≤ i → Written l₀ at (links 0 m) l end
  unfolding links
  links_done h = let z : m - i ≡ 0 = omega arith in left_done _ _ _ _ _ _ p (rw z)

pub ruleset links_laws = (links_room, links_next, links_done, left_length, rules)

-- one state of a set
module _ (k q digit : ℕ) where
  pub state_room : (l : List ℕ) (at : ℕ) → at + length (to_state k q digit) ≤ length l → digit ≡ 1 → at + 5 ≤ length l
  unfolding to_state
  state_room l at room h = rw (eq-eqb digit 1 h) at room

  pub state_put : (l l' : List ℕ) (at end : ℕ) → digit ≡ 1 → Written l at (0 ∷ 1 ∷ k ∷ k ∷ q ∷ []) l' end → Written l at (to_state k q digit) l' end
  unfolding to_state
  state_put l l' at end h w = rw (eq-eqb digit 1 h) w

  pub state_out : (l : List ℕ) (at : ℕ) → (digit ≡ 1 → ⊥) → Written l at (to_state k q digit) l at
  unfolding to_state
  state_out l at h = rw (ne_eqb digit 1 h) (written_none l at)

pub ruleset state_laws = (state_room, state_put, state_out, rules)

-- the states of a set: those from q on are left, whose digits are those of v
module _ (l₀ l : List ℕ) (at j k end q v : ℕ) (p : Left l₀ at (to_set j) l end (to_states k q v (64 - q))) where
  state_here : q < 64 → to_states k q v (64 - q) ≡ to_state k q (v % 2) ++ to_states k (q + 1) (v / 2) (64 - (q + 1))
  unfolding to_states
  state_here h = let z : 64 - q ≡ suc (64 - suc q) = omega arith in rw (z, add-one)

  pub set_room : at + length (to_set j) ≤ length l₀ → q < 64 → end + length (to_state k q (v % 2)) ≤ length l
  set_room room h = left_room _ _ _ _ _ _ p (to_state k q (v % 2)) (to_states k (q + 1) (v / 2) (64 - (q + 1))) (state_here h) room

  pub set_next : (l' : List ℕ) (end' : ℕ) → q < 64 → Written l end (to_state k q (v % 2)) l' end' → Left l₀ at (to_set j) l' end' (to_states k (q + 1) (v / 2) (64 - (q + 1)))
  set_next l' end' h w = left_next _ _ _ _ _ _ p _ _ (state_here h) l' end' w

  pub set_done : 64 ≤ q → Written l₀ at (to_set j) l end
  unfolding to_states
  set_done h = let z : 64 - q ≡ 0 = omega arith in left_done _ _ _ _ _ _ p (rw z)

pub set_start : (l : List ℕ) (at k v : ℕ) → v ≡ number k → Left l at (to_set k) l at (to_states k 0 v (64 - 0))
unfolding to_set
set_start l at k v e = rw e (left_start l at (to_set k))

pub ruleset set_laws = (set_start, set_room, set_next, set_done, left_length, rules)

-- the sets: those from k on are left
module _ (l₀ l : List ℕ) (at end k : ℕ) (p : Left l₀ at (to_sets 1 254) l end (to_sets k (255 - k))) where
  set_here : k < 255 → to_sets k (255 - k) ≡ to_set k ++ to_sets (k + 1) (255 - (k + 1))
  unfolding to_sets
  set_here h = let z : 255 - k ≡ suc (255 - suc k) = omega arith in rw (z, add-one)

  pub sets_room : at + length (to_sets 1 254) ≤ length l₀ → k < 255 → end + length (to_set k) ≤ length l
  sets_room room h = left_room _ _ _ _ _ _ p (to_set k) (to_sets (k + 1) (255 - (k + 1))) (set_here h) room

  pub sets_next : (l' : List ℕ) (end' : ℕ) → k < 255 → Written l end (to_set k) l' end' → Left l₀ at (to_sets 1 254) l' end' (to_sets (k + 1) (255 - (k + 1)))
  sets_next l' end' h w = left_next _ _ _ _ _ _ p _ _ (set_here h) l' end' w

  pub sets_done : 255 ≤ k → Written l₀ at (to_sets 1 254) l end
  unfolding to_sets
  sets_done h = let z : 255 - k ≡ 0 = omega arith in left_done _ _ _ _ _ _ p (rw z)

pub ruleset sets_laws = (sets_room, sets_next, sets_done, left_length, rules)

-- the front of a sheet: its start, its accept words and the number of its records, one behind the other
pub front_put : (o a b c zs : List ℕ) (n m e f g : ℕ) → Written o 0 (1 ∷ 0 ∷ n ∷ []) a e → Written a e zs b f → Written b f (m ∷ []) c g
    → Written o 0 (1 ∷ 0 ∷ n ∷ zs ++ m ∷ []) c g
front_put o a b c zs n m e f g s t u = written_append _ _ _ _ _ _ _ _ (written_append _ _ _ _ _ _ _ _ s t) u

pub ruleset front_laws = (front_put, rules)

-- the records behind the front make the sheet
module _ (o a zs : List ℕ) (n m e : ℕ) (s : Written o 0 (1 ∷ 0 ∷ n ∷ zs ++ m ∷ []) a e) where
  front_long : e ≡ 4 + length zs
  front_long = s.behind ∙ omega (arith, length-append (1 ∷ 0 ∷ n ∷ zs) (m ∷ []))

  module _ (b rs : List ℕ) (r : ℕ) (t : Written a e rs b r) where
    sheet_long : r ≡ 4 + length zs + length rs
    sheet_long = omega (arith, front_long, t.behind)

    sheet_written : Written o 0 (1 ∷ 0 ∷ n ∷ zs ++ m ∷ rs) b r
    sheet_written = rw (append_assoc (1 ∷ 0 ∷ n ∷ zs) (m ∷ []) rs) at (written_append _ _ _ _ _ _ _ _ s t)

    sheet_made : 4 + length zs + length rs ≤ length o → take r b ≡ 1 ∷ 0 ∷ n ∷ zs ++ m ∷ rs
    sheet_made room =
        let w : List ℕ = 1 ∷ 0 ∷ n ∷ zs ++ m ∷ rs in
        let long : length w ≡ 4 + length zs + length rs = length-append (1 ∷ 0 ∷ n ∷ zs) (m ∷ rs) ∙ omega arith in
        let z : r ≡ length w = sheet_long ∙ sym long in
        rw (sheet_written.stored, z) (front_written o w (omega (arith, room, long)))

module _ (o a b : List ℕ) (e r : ℕ) (s : Written o 0 (1 ∷ 0 ∷ 255 ∷ replicate 255 0 ++ 254 ∷ []) a e) (t : Written a e (links 0 254) b r) where
  pub chain_made : 1529 ≤ length o → take r b ≡ chain 254
  unfolding chain
  chain_made room = sheet_made o a (replicate 255 0) 255 254 e s b (links 0 254) r t (omega (arith, room, length_links 0 254))

  pub chain_long : r ≡ 1529
  chain_long = sheet_long o a (replicate 255 0) 255 254 e s b (links 0 254) r t ∙ omega (arith, length_links 0 254)

pub ruleset chain_laws = (chain_made, chain_long, rules)

length_all : length (to_sets 1 254) ≡ 9010
unfolding to_sets to_set to_states to_state number
length_all = refl

module _ (o a : List ℕ) (e : ℕ) (s : Written o 0 (1 ∷ 0 ∷ 64 ∷ replicate 64 0 ++ 1802 ∷ []) a e) where
  pub colliding_room : 9078 ≤ length o → length a ≡ length o → e + length (to_sets 1 254) ≤ length a
  colliding_room room h = omega (arith, front_long o a (replicate 64 0) 64 1802 e s, length_all)

  module _ (b : List ℕ) (r : ℕ) (t : Written a e (to_sets 1 254) b r) where
    pub colliding_made : 9078 ≤ length o → take r b ≡ colliding
    unfolding colliding
    colliding_made room = sheet_made o a (replicate 64 0) 64 1802 e s b (to_sets 1 254) r t (omega (arith, room, length_all))

    pub colliding_long : r ≡ 9078
    colliding_long = sheet_long o a (replicate 64 0) 64 1802 e s b (to_sets 1 254) r t ∙ omega (arith, length_all)

pub ruleset colliding_laws = (colliding_room, colliding_made, colliding_long, rules)

-- a search for such a set starts where one for the start's set does
pub starts_together : (S : Set) (k : ℕ) → bits_number S ≡ number k → place_after S 0 ≡ place_after (0 ∷ []) 0
unfolding place_after bits_number number
starts_together S k e = omega (arith, e)
