-- Laws of the parts of a case, as the functions that take it apart ask them.
use Prim.Native.Nat.{ℕ, suc, ◌+◌, ◌-◌, ◌≤◌, ◌<◌}
use mathlib.Core.List.{List, [], ◌∷◌}
use mathlib.Core.Path.{◌≡◌, sym, ◌∙◌, ap}
use native.Mathlib.Omega.{arith}
use borrow.Author.Rules.{rules}
use borrow.Author.Tests.{le-leb, lt-leb, lt-ltb, le-ltb}
use lib.ListN.{length, get_or, take, drop, set, length-take, drop_of_length-le}
use lib.Seq.{length-take-le, get_or-take}
use Rattle.stores.specs.Written.{Written}
use Rattle.lists.proofs.Parts.{take_more, drop_at}
use Rattle.stores.proofs.Written.{written_none, written_more}
use Rattle.replay.specs.Cases.{list_at, bytes_before}

-- a place outside, a list that is too long, and a list
module _ (s : List ℕ) (at : ℕ) where
  pub list_outside : length s ≤ at → [] ≡ list_at s at
  unfolding list_at
  list_outside h = sym (rw (le-leb (length s) at h))

  pub list_long : (n : ℕ) → at < length s → n ≡ get_or s at 0 → length s - (at + 1) < n → [] ≡ list_at s at
  unfolding list_at
  list_long n h e p = sym (rw (lt-leb (length s) at h, lt-ltb (length s - (at + 1)) (get_or s at 0) (rw e at p)))

  pub list_part : (n : ℕ) → at < length s → n ≡ get_or s at 0 → n ≤ length s - (at + 1) → take (at + 1 + n - (at + 1)) (drop (at + 1) s) ≡ list_at s at
  unfolding list_at
  list_part n h e p =
      let q : at + 1 + n - (at + 1) ≡ get_or s at 0 = omega arith in
      ap (λ (k : ℕ). take k (drop (at + 1) s)) q ∙ sym (rw (lt-leb (length s) at h, le-ltb (length s - (at + 1)) (get_or s at 0) (rw e at p)))

pub ruleset list_laws = (list_outside, list_long, list_part, rules)

-- bytes of a list, of which i are stored
pub bytes_none : (out s : List ℕ) → Written out 0 (take 0 s) out 0
bytes_none out s = written_none out 0

pub bytes_next : (out m s : List ℕ) (i : ℕ) → i < length s → Written out 0 (take i s) m i → Written out 0 (take (i + 1) s) (set m i (get_or s i 0)) (i + 1)
bytes_next out m s i h w = rw (take_more s i h) (written_more out m (take i s) 0 i (get_or s i 0) w)

-- what is stored is counted
pub bytes_count : (out m : List ℕ) (i : ℕ) → i ≤ length out → length m ≡ length out → i ≡ length (take i m)
bytes_count out m i h e = sym (length-take-le i m (omega arith))

-- the elements before the first that is no byte, of which i are passed
pub before_none : (t : List ℕ) → 0 + bytes_before (drop 0 t) ≡ bytes_before t
before_none t = omega arith

module _ (s : List ℕ) (n i : ℕ) (e : i + bytes_before (drop i (take n s)) ≡ bytes_before (take n s)) where
  before_end : length (take n s) ≤ i → i ≡ bytes_before (take n s)
  unfolding bytes_before
  before_end h = let z : bytes_before (drop i (take n s)) ≡ 0 = ap bytes_before (drop_of_length-le (take n s) h) in omega arith

  pub before_ended : length s ≤ i → i ≤ length s → length s ≡ bytes_before (take n s)
  before_ended h g = omega (arith, before_end (simp length-take (omega arith)))

  pub before_full : (m : List ℕ) → length m ≡ n → length m ≤ i → i ≡ bytes_before (take n s)
  before_full m l h = before_end (simp length-take (omega arith))

  module _ (m : List ℕ) (l : length m ≡ n) (h : i < length s) (g : i < length m) where
    here : drop i (take n s) ≡ get_or s i 0 ∷ drop (i + 1) (take n s)
    here = drop_at (take n s) i (simp length-take (omega arith)) ∙ ap (λ (x : ℕ). x ∷ drop (i + 1) (take n s)) (get_or-take n s i 0 (omega arith))

    pub before_stopped : 255 < get_or s i 0 → i ≡ bytes_before (take n s)
    unfolding bytes_before
    before_stopped p = let z : bytes_before (drop i (take n s)) ≡ 0 = ap bytes_before here ∙ rw (lt-ltb 255 (get_or s i 0) p) in omega arith

    pub before_next : get_or s i 0 ≤ 255 → i + 1 + bytes_before (drop (i + 1) (take n s)) ≡ bytes_before (take n s)
    unfolding bytes_before
    before_next p =
        let z : bytes_before (drop i (take n s)) ≡ suc (bytes_before (drop (i + 1) (take n s))) = ap bytes_before here ∙ rw (le-ltb 255 (get_or s i 0) p) in
        omega arith

pub ruleset byte_laws = (bytes_none, bytes_next, bytes_count, before_none, before_ended, before_full, before_stopped, before_next, rules)
