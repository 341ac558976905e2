-- What stands at a place of a text, by the length of the sequence that its byte begins.
use Prim.Native.Nat.{ℕ, ◌+◌, ◌≤◌, ◌<◌}
use mathlib.Core.List.{List}
use mathlib.Core.Path.{◌≡◌, refl, sym, ◌∙◌, ap}
use native.Mathlib.Omega.{arith}
use borrow.Author.Tests.{le-ltb, lt-leb}
use lib.Dec.{lit≤}
use lib.ListN.{length, get_or, drop, drop_of_length-le}
use Rattle.lists.proofs.Parts.{drop_at}
use Rattle.utf8.proofs.Lead.{Lead, none, one, two, three, four, lead}
use Rattle.utf8.specs.Utf8.{sequence_length, continued, lead_bits, value_of, is_surrogate, is_improper, least_value, scalar_of, sequence, point, front}
use Rattle.utf8.specs.inner.Steps.{placed, step_at}
use Rattle.utf8.specs.declared.Step.{Step}
use Rattle.utf8.specs.declared.Step.TheVariants.{Point, End, Malformed}

-- no sequence has more than four bytes
few : {a n : ℕ} → Lead a n → n ≤ 4
few none = lit≤ tt
few (one h) = lit≤ tt
few (two h k) = lit≤ tt
few (three h k) = lit≤ tt
few (four h k) = lit≤ tt

-- a byte that is a sequence by itself is below 128
low : {a n : ℕ} → Lead a n → n ≡ 1 → a < 128
low none e = absurd (omega arith)
low (one h) e = h
low (two h k) e = absurd (omega arith)
low (three h k) e = absurd (omega arith)
low (four h k) e = absurd (omega arith)

-- such a byte stands for itself
pub sequence_one : (a : ℕ) (rest : List ℕ) → a < 128 → sequence 1 a rest ≡ point a 1
unfolding sequence continued lead_bits value_of scalar_of least_value is_improper is_surrogate
sequence_one a rest h = rw (le-ltb a 0 (omega arith), le-ltb 1114111 a (omega arith), lt-leb 55296 a (omega arith))

module _ (t : List ℕ) (at : ℕ) where
  pub next_end : length t ≤ at → End ≡ step_at t at
  unfolding step_at front
  next_end h = rw (drop_of_length-le t h)

  module _ (n : ℕ) (inside : at < length t) (told : n ≡ sequence_length (get_or t at 0)) where
    pub next_sequence : (k : ℕ) (s : Step) → n ≡ k → s ≡ placed at (sequence k (get_or t at 0) (drop (at + 1) t)) → s ≡ step_at t at
    unfolding step_at front
    next_sequence k s e es = es ∙ rw (drop_at t at inside, ← told, e)

    pub next_one : (x : ℕ) → n ≡ 1 → x ≡ get_or t at 0 → Point x (at + 1) ≡ step_at t at
    next_one x e ex =
        next_sequence 1 _ e (ap (λ y. Point y (at + 1)) ex ∙ ap (placed at) (sym (sequence_one _ _ (low (lead _) (sym told ∙ e)))))

    pub next_none : (n ≡ 1 → ⊥) → (n ≡ 2 → ⊥) → (n ≡ 3 → ⊥) → (n ≡ 4 → ⊥) → Malformed ≡ step_at t at
    unfolding sequence
    next_none n1 n2 n3 n4 = next_sequence 0 _ (omega (arith, few (lead (get_or t at 0)))) refl
