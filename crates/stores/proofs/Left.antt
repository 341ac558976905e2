-- What is left to write: the laws of loops that write a list piece by piece.
use Prim.Native.Nat.{ℕ, ◌+◌, ◌≤◌}
use mathlib.Core.List.{List, [], ◌++◌}
use mathlib.Core.Path.{◌≡◌, refl, ap}
use native.Mathlib.Omega.{arith}
use lib.ListN.{length, length-append}
use lib.Seq.{sets, length-sets}
use Rattle.stores.specs.Written.{Written}
use Rattle.lists.proofs.Parts.{sets_append}

-- with `left` written at `end`, the list o is o₀ with `all` written at `at`
pub record Left (o₀ : List ℕ) (at : ℕ) (all o : List ℕ) (end : ℕ) (left : List ℕ) : Type 0 where
  pub stored : sets o end left ≡ sets o₀ at all
  pub behind : end + length left ≡ at + length all

pub left_start : (o : List ℕ) (at : ℕ) (all : List ℕ) → Left o at all o at all
left_start o at all = record { stored = refl; behind = refl }

module _ (o₀ : List ℕ) (at : ℕ) (all o : List ℕ) (end : ℕ) (left : List ℕ) (l : Left o₀ at all o end left) where
  pub left_length : length o ≡ length o₀
  left_length = simp length-sets at (ap length l.stored)

  pub left_done : left ≡ [] → Written o₀ at all o end
  left_done e =
      record {
        stored = rw e at l.stored;
        behind = omega (arith, l.behind, ap length e);
      }

  -- v is written, and rest is left
  module _ (v rest : List ℕ) (e : left ≡ v ++ rest) where
    pub left_room : at + length all ≤ length o₀ → end + length v ≤ length o
    left_room h = omega (arith, l.behind, left_length, ap length e, length-append v rest)

    pub left_next : (o' : List ℕ) (end' : ℕ) → Written o end v o' end' → Left o₀ at all o' end' rest
    left_next o' end' w =
        record {
          stored = rw (w.stored, w.behind, sets_append, ← e) l.stored;
          behind = omega (arith, l.behind, w.behind, ap length e, length-append v rest);
        }
