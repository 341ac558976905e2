-- The laws in the shape of what the recursion of `put_digits` asks: l is the memory before, m after the digits of the tenth.
use Prim.Native.Nat.{ℕ, ◌+◌, ◌/◌, ◌%◌, ◌^◌, ◌≤◌, ◌<◌}
use mathlib.Core.List.{List, [], ◌∷◌}
use native.Mathlib.Omega.{arith}
use lib.ListN.{length}
use borrow.Author.Rules.{rules}
use Rattle.decimal.specs.Decimal.{digits}
use Rattle.stores.specs.Written.{Written}
use Rattle.decimal.proofs.Decimal.{digits_one, digits_more, length_more, length_some, length_word}
use Rattle.stores.proofs.Written.{written_append, written_length}

module _ (l : List ℕ) (at x : ℕ) where
  pub one_room : at + length (digits x) ≤ length l → at < length l
  one_room r = omega (arith, length_some x)

  pub one_put : (m : List ℕ) (end : ℕ) → Written l at ((48 + x) ∷ []) m end → x < 10 → Written l at (digits x) m end
  one_put m end w h = rw (digits_one x h) w

  pub tenth_room : at + length (digits x) ≤ length l → 10 ≤ x → at + length (digits (x / 10)) ≤ length l
  tenth_room r h = omega (arith, length_more x h)

  module _ (m : List ℕ) (last : ℕ) (w : Written l at (digits (x / 10)) m last) where
    pub last_room : at + length (digits x) ≤ length l → 10 ≤ x → last < length m
    last_room r h = omega (arith, length_more x h, w.behind, written_length l m (digits (x / 10)) at last w)

    pub last_put : (n : List ℕ) (end : ℕ) → Written m last ((48 + x % 10) ∷ []) n end → 10 ≤ x → Written l at (digits x) n end
    last_put n end v h = rw (digits_more x h) (written_append l m n (digits (x / 10)) ((48 + x % 10) ∷ []) at last end w v)

-- room for ten digits is room for those of a word
pub word_room : (l : List ℕ) (at x : ℕ) → at + 10 ≤ length l → x < 2 ^ 32 → at + length (digits x) ≤ length l
word_room l at x r h = omega (arith, length_word x h)

pub ruleset put_laws = (one_room, one_put, tenth_room, last_room, last_put, written_length, rules)
