-- The laws in the shape of what the check asks.
use Prim.Native.Nat.{ℕ, suc, ◌+◌, ◌-◌, ◌/◌, ◌%◌, ◌≤◌, ◌<◌}
use mathlib.Core.Bool.{Bool, true, false, cond, ◌&&◌}
use mathlib.Core.List.{List}
use mathlib.Core.Logic.{⊎_elim}
use mathlib.Core.Path.{◌≡◌, sym, ◌∙◌, ap}
use native.Mathlib.Omega.{arith}
use lib.Dec.{leb}
use lib.ListN.{length, get_or, drop, length-drop, drop_of_length-le}
use lib.Seq.{drop-drop}
use borrow.Author.Rules.{rules}
use borrow.Author.Tests.{lt-leb, le-leb, leb-true, leb-false, eq-eqb, ne_eqb}
use Rattle.lists.proofs.Parts.{drop_at}
use Rattle.lists.proofs.Tests.{test}
use Rattle.labels.specs.Labels.{entries_ok, labels_ok, labels_fault}

-- the entries from a place on, with i of n labels behind it, by the length that stands there
entries_at : (k at : ℕ) (b : List ℕ) → at < length b
    → entries_ok (suc k) (drop at b)
    ≡ (leb 1 (get_or b at 0) && (leb (get_or b at 0) 64 && (leb (get_or b at 0) (length b - (at + 1)) && entries_ok k (drop (at + 1 + get_or b at 0) b))))
unfolding entries_ok
entries_at k at b g = ap (λ t. entries_ok (suc k) t) (drop_at b at g) ∙ rw (length-drop, drop-drop)

pub entries_next : (n i at : ℕ) (b : List ℕ) → i < n → at < length b
    → entries_ok (n - i) (drop at b)
    ≡ (leb 1 (get_or b at 0) && (leb (get_or b at 0) 64 && (leb (get_or b at 0) (length b - (at + 1)) && entries_ok (n - (i + 1)) (drop (at + 1 + get_or b at 0) b))))
entries_next n i at b h g = let z : n - i ≡ suc (n - (i + 1)) = omega arith in rw z (entries_at (n - (i + 1)) at b g)

pub entries_missing : (n i at : ℕ) (b : List ℕ) → i < n → length b ≤ at → entries_ok (n - i) (drop at b) ≡ false
unfolding entries_ok
entries_missing n i at b h g = let z : n - i ≡ suc (n - (i + 1)) = omega arith in rw (z, drop_of_length-le b g)

pub entries_done : (n i at : ℕ) (b : List ℕ) → n ≤ i → entries_ok (n - i) (drop at b) ≡ leb (length b) at
unfolding entries_ok
entries_done n i at b h =
    let z : n - i ≡ 0 = omega arith in
    rw z
    (⊎_elim (λ p. rw (drop_of_length-le b (leb-true (length b) at p)) (sym p)) (λ p. rw (drop_at b at (leb-false (length b) at p)) (sym p))
    (test (leb (length b) at)))

-- the fault, by what the check finds in this order; low and high are the two bytes of the count
module _ (n : ℕ) (b : List ℕ) where
  pub fault_short : length b < 2 → 10 ≡ labels_fault n b
  unfolding labels_fault labels_ok
  fault_short h = sym (rw (lt-leb 2 (length b) h))

  module _ (low : ℕ) (d : low ≡ get_or b 0 0) (h : 2 ≤ length b) where
    pub fault_low : (low ≡ n % 256 → ⊥) → 10 ≡ labels_fault n b
    unfolding labels_fault labels_ok
    fault_low p = sym (rw (le-leb 2 (length b) h, ← d, ne_eqb low (n % 256) p))

    module _ (high : ℕ) (f : high ≡ get_or b 1 0) (p : low ≡ n % 256) where
      pub fault_high : (high ≡ n / 256 → ⊥) → 10 ≡ labels_fault n b
      unfolding labels_fault labels_ok
      fault_high q = sym (rw (le-leb 2 (length b) h, ← d, ← f, eq-eqb low (n % 256) p, ne_eqb high (n / 256) q))

      fault_entries : (r : Bool) → high ≡ n / 256 → r ≡ entries_ok n (drop 2 b) → labels_fault n b ≡ cond r 0 10
      unfolding labels_fault labels_ok
      fault_entries r q e = rw (le-leb 2 (length b) h, ← d, ← f, eq-eqb low (n % 256) p, eq-eqb high (n / 256) q, ← e)

      pub fault_none : (r : Bool) → high ≡ n / 256 → r ≡ entries_ok n (drop 2 b) → r ≡ true → 0 ≡ labels_fault n b
      fault_none r q e t = sym (fault_entries r q e ∙ rw t)

      pub fault_some : (r : Bool) → high ≡ n / 256 → r ≡ entries_ok n (drop 2 b) → r ≡ false → 10 ≡ labels_fault n b
      fault_some r q e t = sym (fault_entries r q e ∙ rw t)

pub ruleset fault_laws = (fault_short, fault_low, fault_high, fault_none, fault_some, rules)
