-- `add_gap` meets its contract: the two stores are the words of the gap.
use Prim.Native.Nat.{ℕ, ◌+◌, ◌-◌, ◌*◌, ◌≤◌, ◌<◌}
use mathlib.Core.List.{List}
use mathlib.Core.Path.{◌≡◌}
use native.Mathlib.Numerals.{add-one}
use native.Mathlib.Omega.{arith}
use borrow.Author.Rules.{rules}
use lib.ListN.{length, set, length-set}
use lib.Seq.{sets}
use Rattle.ranges.specs.inner.Missing.{gap, span_words}
use Rattle.ranges.proofs.Scanned.{gap_some, gap_none}
use Rattle.ranges.proofs.add_gap.Statement.{statement}
use Rattle.ranges.proofs.add_gap.Tie as tie

module _ (h : List ℕ) (n a b : ℕ) where
  one_more : a < b → n + 1 ≡ n + length (gap a b)
  one_more p = rw (gap_some a b p)

  none_more : b ≤ a → n ≡ n + length (gap a b)
  none_more p = rw (gap_none a b p) (omega arith)

  written : a < b → set (set h (2 * n) a) (2 * n + 1) (b - 1) ≡ sets h (2 * n) (span_words (gap a b))
  unfolding span_words
  written p = rw (gap_some a b p, add-one (2 * n))

  kept : b ≤ a → h ≡ sets h (2 * n) (span_words (gap a b))
  unfolding span_words
  kept p = rw (gap_none a b p)

ruleset laws = (one_more, none_more, written, kept, rules)

pub add_gap_spec : {M : Type 1} → statement M
add_gap_spec =
    tie.close
    (tie.spec (λ c. search laws) (λ c. search laws) (λ c. search laws) (λ c. search laws) (λ c. search laws)
    (λ c. search laws) (λ c. search laws) (λ c. search laws) (λ c. search laws) (λ c. simp length-set (omega arith))
    (λ c. search laws) (λ c. search laws) (λ c. search laws) (λ c. search laws))
