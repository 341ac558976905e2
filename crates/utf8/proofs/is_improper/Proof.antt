-- `utf8::is_improper` meets its contract.
use Prim.Native.Nat.{ℕ, ◌≤◌, ◌<◌}
use mathlib.Core.Bool.{true, false}
use mathlib.Core.Path.{◌≡◌}
use native.Mathlib.Omega.{arith}
use borrow.Author.Rules.{rules}
use borrow.Author.Tests.{lt-ltb, le-ltb, le-leb, lt-leb}
use lib.Dec.{leb}
use Rattle.utf8.specs.Utf8.{is_improper, is_surrogate}
use Rattle.utf8.proofs.is_improper.Statement.{statement}
use Rattle.utf8.proofs.is_improper.Tie as tie

-- m is the number that the code takes for the last code point
module _ (least x : ℕ) where
  overlong : x < least → true ≡ is_improper least x
  unfolding is_improper
  overlong h = rw (lt-ltb x least h)

  over_last : (m : ℕ) → least ≤ x → m < x → 0x10_FFFF ≤ m → true ≡ is_improper least x
  unfolding is_improper
  over_last m h l k = rw (le-ltb x least h, lt-ltb 0x10_FFFF x (omega arith))

  proper : least ≤ x → x < 0xD800 → false ≡ is_improper least x
  unfolding is_improper is_surrogate
  proper h l = rw (le-ltb x least h, le-ltb 0x10_FFFF x (omega arith), lt-leb 0xD800 x l)

  surrogate : (m : ℕ) → least ≤ x → x ≤ m → m ≤ 0x10_FFFF → 0xD800 ≤ x → leb x 0xDFFF ≡ is_improper least x
  unfolding is_improper is_surrogate
  surrogate m h l k g = rw (le-ltb x least h, le-ltb 0x10_FFFF x (omega arith), le-leb 0xD800 x g)

pub is_improper_spec : {M : Type 1} → statement M
is_improper_spec =
    tie.close
    (tie.spec (λ c. search (overlong, rules)) (λ c. search (over_last, rules)) (λ c. search (proper, rules)) (λ c. search (surrogate, rules)))
