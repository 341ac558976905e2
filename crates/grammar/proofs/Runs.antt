-- Laws of the bytes at a place that pass a test: how a loop over them goes on and ends.
use Prim.Native.Nat.{ℕ, suc, ◌+◌, ◌≤◌, ◌<◌}
use mathlib.Core.Bool.{Bool, true, false, not, cond}
use mathlib.Core.List.{List, [], ◌∷◌}
use mathlib.Core.Path.{◌≡◌, refl, sym, ◌∙◌}
use native.Mathlib.Omega.{arith}
use borrow.Author.Rules.{rules}
use borrow.Author.Tests.{not-true, not-false}
use lib.ListN.{length, get_or, drop, length-drop, drop_of_length-le}
use Rattle.lists.proofs.Parts.{drop_at}
use Rattle.grammar.specs.Bytes.{is_space, is_name_byte}
use Rattle.grammar.specs.Grammar.{run, space}

module _ (f : ℕ → Bool) (t : List ℕ) (at : ℕ) where
  pub run_end : length t ≤ at → run f (drop at t) ≡ 0
  unfolding run
  run_end h = rw (drop_of_length-le t h)

  pub run_more : at < length t → f (get_or t at 0) ≡ true → run f (drop at t) ≡ suc (run f (drop (at + 1) t))
  unfolding run
  run_more h e = rw (drop_at t at h, e)

  pub run_stop : at < length t → f (get_or t at 0) ≡ false → run f (drop at t) ≡ 0
  unfolding run
  run_stop h e = rw (drop_at t at h, e)

-- no more bytes pass than there are
pub run_short : (f : ℕ → Bool) (l : List ℕ) → run f l ≤ length l
unfolding run
run_short f [] = omega arith
run_short f (b ∷ l) = go (f b) (run_short f l)
  where
    go : (c : Bool) → run f l ≤ length l → cond c (suc (run f l)) 0 ≤ suc (length l)
    go true h = omega arith
    go false h = omega arith

pub run_within : (f : ℕ → Bool) (t : List ℕ) (at : ℕ) → at < length t → at + run f (drop at t) ≤ length t
run_within f t at h = omega (arith, run_short f (drop at t), length-drop at t)

-- a loop that has passed the bytes up to at, where n is the place behind the last that passes
module _ (f : ℕ → Bool) (t : List ℕ) (n at : ℕ) (e : n ≡ at + run f (drop at t)) where
  past_end : length t ≤ at → (m : ℕ) → m ≡ at → m ≡ n
  past_end h m q = omega (arith, e, run_end f t at h)

  past_stop : at < length t → (r : Bool) → r ≡ f (get_or t at 0) → not r ≡ true → at ≡ n
  past_stop h r g k = omega (arith, e, run_stop f t at h (sym g ∙ not-true r k))

  past_next : at < length t → (r : Bool) → r ≡ f (get_or t at 0) → not r ≡ false → n ≡ at + 1 + run f (drop (at + 1) t)
  past_next h r g k = omega (arith, e, run_more f t at h (sym g ∙ not-false r k))

pub space_begin : (t : List ℕ) (at : ℕ) → space t at ≡ at + run is_space (drop at t)
unfolding space
space_begin t at = refl

-- the place behind optional space is within the text
pub space_inside : (t : List ℕ) (at : ℕ) → at ≤ length t → space t at ≤ length t
unfolding space
space_inside t at h = omega (arith, run_short is_space (drop at t), length-drop at t)

module _ (t : List ℕ) (n at : ℕ) (e : n ≡ at + run is_space (drop at t)) where
  pub space_end : length t ≤ at → (m : ℕ) → m ≡ at → m ≡ n
  space_end = past_end is_space t n at e

  pub space_stop : at < length t → (r : Bool) → r ≡ is_space (get_or t at 0) → not r ≡ true → at ≡ n
  space_stop = past_stop is_space t n at e

  pub space_next : at < length t → (r : Bool) → r ≡ is_space (get_or t at 0) → not r ≡ false → n ≡ at + 1 + run is_space (drop (at + 1) t)
  space_next = past_next is_space t n at e

pub ruleset space_laws = (space_begin, space_end, space_stop, space_next, rules)

module _ (t : List ℕ) (n at : ℕ) (e : n ≡ at + run is_name_byte (drop at t)) where
  pub name_end : length t ≤ at → (m : ℕ) → m ≡ at → m ≡ n
  name_end = past_end is_name_byte t n at e

  pub name_stop : at < length t → (r : Bool) → r ≡ is_name_byte (get_or t at 0) → not r ≡ true → at ≡ n
  name_stop = past_stop is_name_byte t n at e

  pub name_next : at < length t → (r : Bool) → r ≡ is_name_byte (get_or t at 0) → not r ≡ false → n ≡ at + 1 + run is_name_byte (drop (at + 1) t)
  name_next = past_next is_name_byte t n at e

pub ruleset name_laws = (name_end, name_stop, name_next, rules)
