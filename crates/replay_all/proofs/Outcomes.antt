-- Laws of cases of operations: the outcome of a call is compared with what stands behind the inputs.
use Rattle.std.proofs.Common.{Result, Ok, Err}
use Prim.Native.Nat.{ℕ, ◌+◌, ◌-◌, ◌≤◌, ◌<◌}
use mathlib.Core.Bool.{Bool, true, false, cond}
use mathlib.Core.List.{List}
use mathlib.Core.Path.{◌≡◌, sym, ◌∙◌, ap}
use native.Mathlib.Omega.{arith}
use borrow.Author.Rules.{rules}
use borrow.Author.Tests.{eq-eqb, ne_eqb, lt-ltb, le-ltb}
use lib.Dec.{eqb, ltb}
use lib.ListN.{length, take}
use Rattle.labels.specs.Labels.{same_label}
use Rattle.lists.proofs.Index.{same_equal, equal_same}
use Rattle.stores.specs.Written.{Written}
use Rattle.lists.proofs.Tests.{true_same}
use Rattle.output.specs.declared.Made.{Made}
use Rattle.output.specs.Made.{output_of}
use Rattle.refusal.specs.declared.Refusal.{Refusal}
use Rattle.refusal.specs.Number.{number_of}
use Rattle.replay.specs.Cases.{list_at, is_last, bytes_before}
use Rattle.replay_all.specs.Outcomes.{is_listed, is_built, is_answer, is_outcome}
use Rattle.replay_all.proofs.Bytes.{bytes_all}

-- a test that answers whether two lists are the same
pub same_test : (v : Bool) (x y : List ℕ) → ((v ≡ true → x ≡ y) × (x ≡ y → v ≡ true)) → v ≡ same_label x y
same_test v x y p = true_same v (same_label x y) (λ t. equal_same x y (p.0 t)) (λ t. p.1 (same_equal x y t))

-- a sheet and labels as lists
module _ (s ws bs : List ℕ) (at : ℕ) where
  pub listed_outside : length s ≤ at → false ≡ is_listed s at ws bs
  unfolding is_listed
  listed_outside h = sym (rw (ne_eqb (at + 1 + length (list_at s at) + 1 + length (list_at s (at + 1 + length (list_at s at)))) (length s) (λ e. omega arith)))

  module _ (x y : List ℕ) (lx : x ≡ list_at s at) (ly : y ≡ list_at s (at + 1 + length x)) where
    listed_by : is_listed s at ws bs
        ≡ cond (eqb (at + 1 + length x + 1 + length y) (length s))
        (cond (eqb (bytes_before (take 16642 y)) (length y)) (cond (same_label x ws) (same_label y bs) false) false)
        false
    unfolding is_listed
    listed_by = rw (← lx, ← ly)

    pub listed_other : (at + 1 + length x + 1 + length y ≡ length s → ⊥) → false ≡ is_listed s at ws bs
    listed_other h = sym (listed_by ∙ rw (ne_eqb (at + 1 + length x + 1 + length y) (length s) h))

    module _ (e : at + 1 + length x + 1 + length y ≡ length s) (n : ℕ) (q : n ≡ bytes_before (take 16642 y)) where
      pub listed_long : (n ≡ length y → ⊥) → false ≡ is_listed s at ws bs
      listed_long h = sym (listed_by ∙ rw (eq-eqb (at + 1 + length x + 1 + length y) (length s) e, ← q, ne_eqb n (length y) h))

      module _ (h : n ≡ length y) (v : Bool) (p : (v ≡ true → x ≡ ws) × (x ≡ ws → v ≡ true)) where
        listed_then : is_listed s at ws bs ≡ cond v (same_label y bs) false
        listed_then = listed_by ∙ rw (eq-eqb (at + 1 + length x + 1 + length y) (length s) e, ← q, eq-eqb n (length y) h, ← same_test v x ws p)

        pub listed_words : v ≡ false → false ≡ is_listed s at ws bs
        listed_words t = sym (listed_then ∙ rw t)

        pub listed_bytes : v ≡ true → (z m : List ℕ) → Written z 0 (take n y) m n → n ≤ length m → (u : Bool)
            → ((u ≡ true → take n m ≡ bs) × (take n m ≡ bs → u ≡ true)) → u ≡ is_listed s at ws bs
        listed_bytes t z m w g u r =
            same_test u (take n m) bs r ∙ ap (λ (l : List ℕ). same_label l bs) (bytes_all z m y n w h g) ∙ sym (listed_then ∙ rw t)

pub ruleset listed_laws = (listed_outside, listed_other, listed_long, listed_words, listed_bytes, rules)

-- the outcome of an operation
module _ (s : List ℕ) (at : ℕ) (a : Result Made Refusal) (o l : List ℕ) where
  module _ (m : Made) (e : a ≡ Ok m) where
    outcome_by : is_outcome s at (output_of a o l) ≡ cond (ltb (length o) m.words) false (cond (ltb (length l) m.bytes) false (is_built s at (take m.words o) (take m.bytes l)))
    unfolding is_answer
    outcome_by = ap (λ (x : Result Made Refusal). is_outcome s at (output_of x o l)) e

    pub outcome_words : length o < m.words → false ≡ is_outcome s at (output_of a o l)
    outcome_words h = sym (outcome_by ∙ rw (lt-ltb (length o) m.words h))

    module _ (h : m.words ≤ length o) where
      pub outcome_bytes : length l < m.bytes → false ≡ is_outcome s at (output_of a o l)
      outcome_bytes g = sym (outcome_by ∙ rw (le-ltb (length o) m.words h, lt-ltb (length l) m.bytes g))

      pub outcome_built : m.bytes ≤ length l → (r : Bool) → r ≡ is_built s at (take (m.words - 0) o) (take (m.bytes - 0) l) → r ≡ is_outcome s at (output_of a o l)
      outcome_built g r p = (let y : m.words - 0 ≡ m.words = omega arith in let z : m.bytes - 0 ≡ m.bytes = omega arith in rw (y, z) at p) ∙ sym (outcome_by ∙ rw (le-ltb (length o) m.words h, le-ltb (length l) m.bytes g))

  pub outcome_refused : (i : Refusal) (n : ℕ) (r : Bool) → a ≡ Err i → n ≡ number_of i → r ≡ is_last s at n → r ≡ is_outcome s at (output_of a o l)
  unfolding is_answer
  outcome_refused i n r e q p = p ∙ ap (is_last s at) q ∙ sym (ap (λ (x : Result Made Refusal). is_outcome s at (output_of x o l)) e)

pub ruleset outcome_laws = (outcome_words, outcome_bytes, outcome_built, outcome_refused, rules)
