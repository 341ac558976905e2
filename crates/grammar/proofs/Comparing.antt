-- Laws of words in a text: how the loop that compares bytes goes on and ends.
use Prim.Native.Nat.{ℕ, ◌+◌, ◌≤◌, ◌<◌}
use mathlib.Core.List.{List}
use mathlib.Core.Path.{◌≡◌, refl, sym}
use native.Mathlib.Omega.{arith}
use borrow.Author.Rules.{rules}
use borrow.Author.Tests.{eq-eqb, ne_eqb}
use lib.ListN.{length, get_or, drop, drop_of_length-le}
use Rattle.lists.proofs.Parts.{drop_at}
use Rattle.grammar.specs.Grammar.{nothing, found, mark, begins, token}

pub token_begin : (w t : List ℕ) (at : ℕ) → begins w (drop at t) ≡ begins (drop 0 w) (drop at t)
token_begin w t at = refl

module _ (w t : List ℕ) (start at i : ℕ) (q : at ≡ start + i) (b : begins w (drop start t) ≡ begins (drop i w) (drop at t)) where
  pub token_end : i ≤ length w → length w ≤ i → found mark at ≡ token w t start
  unfolding token begins
  token_end g h = let n : start + length w ≡ at = omega arith in sym (rw (b, drop_of_length-le w h, n))

  pub token_short : i < length w → length t ≤ at → nothing ≡ token w t start
  unfolding token begins
  token_short h g = sym (rw (b, drop_at w i h, drop_of_length-le t g))

  pub token_other : i < length w → at < length t → (get_or t at 0 ≡ get_or w i 0 → ⊥) → nothing ≡ token w t start
  unfolding token begins
  token_other h g n = sym (rw (b, drop_at w i h, drop_at t at g, ne_eqb (get_or t at 0) (get_or w i 0) n))

  pub token_next : i < length w → at < length t → get_or t at 0 ≡ get_or w i 0 → begins w (drop start t) ≡ begins (drop (i + 1) w) (drop (at + 1) t)
  unfolding begins
  token_next h g n = rw (b, drop_at w i h, drop_at t at g, eq-eqb (get_or t at 0) (get_or w i 0) n)

pub ruleset token_laws = (token_begin, token_end, token_short, token_other, token_next, rules)
