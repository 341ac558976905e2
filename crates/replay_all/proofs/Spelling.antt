-- Laws of cases of writing: the text is compared with what stands behind the inputs.
use Rattle.std.proofs.Common.{Result, Ok, Err}
use Prim.Native.Nat.{ℕ, ◌+◌, ◌-◌, ◌≤◌, ◌<◌}
use mathlib.Core.Bool.{Bool, true, false, cond}
use mathlib.Core.List.{List}
use mathlib.Core.Path.{◌≡◌, sym, ◌∙◌, ap}
use native.Mathlib.Omega.{arith}
use borrow.Author.Rules.{rules}
use borrow.Author.Tests.{eq-eqb, ne_eqb, lt-ltb, le-ltb, le-leb, lt-leb}
use lib.Dec.{eqb, ltb}
use lib.ListN.{length, get_or, take}
use Rattle.labels.specs.Labels.{same_label}
use Rattle.stores.specs.Written.{Written}
use Rattle.refusal.specs.declared.Refusal.{Refusal}
use Rattle.refusal.specs.Number.{number_of}
use Rattle.refusal.specs.Outcome.{Outcome}
use Rattle.replay.specs.Cases.{list_at, is_last, bytes_before}
use Rattle.writer.specs.Text.{write_answer, write_outcome}
use Rattle.writer.specs.Wrote.{wrote_of}
use Rattle.replay_all.specs.Spelling.{is_spelled, is_wrote, is_text, buffer, write_case}
use Rattle.replay_all.proofs.Bytes.{bytes_all}
use Rattle.replay_all.proofs.Outcomes.{same_test}

-- a 0 and a text as a list
module _ (s bs : List ℕ) (at : ℕ) where
  pub spelled_outside : length s ≤ at → false ≡ is_spelled s at bs
  unfolding is_spelled
  spelled_outside h = sym (rw (le-leb (length s) at h))

  module _ (h : at < length s) where
    pub spelled_refusal : (get_or s at 0 ≡ 0 → ⊥) → false ≡ is_spelled s at bs
    unfolding is_spelled
    spelled_refusal p = sym (rw (lt-leb (length s) at h, ne_eqb (get_or s at 0) 0 p))

    module _ (p : get_or s at 0 ≡ 0) (x : List ℕ) (lx : x ≡ list_at s (at + 1)) where
      spelled_by : is_spelled s at bs
          ≡ cond (eqb (at + 1 + 1 + length x) (length s)) (cond (eqb (bytes_before (take 4096 x)) (length x)) (same_label x bs) false) false
      unfolding is_spelled
      spelled_by = rw (lt-leb (length s) at h, eq-eqb (get_or s at 0) 0 p, ← lx)

      pub spelled_other : (at + 1 + 1 + length x ≡ length s → ⊥) → false ≡ is_spelled s at bs
      spelled_other e = sym (spelled_by ∙ rw (ne_eqb (at + 1 + 1 + length x) (length s) e))

      module _ (e : at + 1 + 1 + length x ≡ length s) (n : ℕ) (q : n ≡ bytes_before (take 4096 x)) where
        pub spelled_long : (n ≡ length x → ⊥) → false ≡ is_spelled s at bs
        spelled_long i = sym (spelled_by ∙ rw (eq-eqb (at + 1 + 1 + length x) (length s) e, ← q, ne_eqb n (length x) i))

        pub spelled_bytes : n ≡ length x → (z m : List ℕ) → Written z 0 (take n x) m n → n ≤ length m → (u : Bool)
            → ((u ≡ true → take n m ≡ bs) × (take n m ≡ bs → u ≡ true)) → u ≡ is_spelled s at bs
        spelled_bytes i z m w g u r =
            same_test u (take n m) bs r ∙ ap (λ (l : List ℕ). same_label l bs) (bytes_all z m x n w i g)
            ∙ sym (spelled_by ∙ rw (eq-eqb (at + 1 + 1 + length x) (length s) e, ← q, eq-eqb n (length x) i))

pub ruleset spelled_laws = (spelled_outside, spelled_refusal, spelled_other, spelled_long, spelled_bytes, rules)

-- the outcome of writing
module _ (s : List ℕ) (at : ℕ) (a : Result ℕ Refusal) (o : List ℕ) where
  module _ (n : ℕ) (e : a ≡ Ok n) where
    text_by : is_text s at (wrote_of a o) ≡ cond (ltb (length o) n) false (is_spelled s at (take n o))
    unfolding is_wrote
    text_by = ap (λ (x : Result ℕ Refusal). is_text s at (wrote_of x o)) e

    pub text_long : length o < n → false ≡ is_text s at (wrote_of a o)
    text_long h = sym (text_by ∙ rw (lt-ltb (length o) n h))

    pub text_spelled : n ≤ length o → (r : Bool) → r ≡ is_spelled s at (take (n - 0) o) → r ≡ is_text s at (wrote_of a o)
    text_spelled h r p = (let y : n - 0 ≡ n = omega arith in rw y at p) ∙ sym (text_by ∙ rw (le-ltb (length o) n h))

  pub text_refused : (i : Refusal) (k : ℕ) (r : Bool) → a ≡ Err i → k ≡ number_of i → r ≡ is_last s at k → r ≡ is_text s at (wrote_of a o)
  unfolding is_wrote
  text_refused i k r e q p = p ∙ ap (is_last s at) q ∙ sym (ap (λ (x : Result ℕ Refusal). is_text s at (wrote_of x o)) e)

pub ruleset written_text_laws = (text_long, text_spelled, text_refused, rules)

-- a sheet and its labels
module _ (s x y : List ℕ) (lx : x ≡ list_at s 0) (ly : y ≡ list_at s (1 + length x)) (n : ℕ) (q : n ≡ bytes_before (take 16642 y)) where
  write_by : write_case s ≡ cond (eqb n (length y)) (is_text s (1 + length x + 1 + length y) (write_outcome buffer (write_answer x y buffer))) false
  unfolding write_case
  write_by = rw (← lx, ← ly, ← q)

  pub write_other : (n ≡ length y → ⊥) → false ≡ write_case s
  write_other h = sym (write_by ∙ rw (ne_eqb n (length y) h))

  pub write_told : n ≡ length y → (z m : List ℕ) → Written z 0 (take n y) m n → n ≤ length m → (o : Outcome ℕ (List ℕ)) (b : Bool)
      → o ≡ write_outcome buffer (write_answer x (take n m) buffer) → b ≡ is_text s (1 + length x + 1 + length y) o → b ≡ write_case s
  write_told h z m w g o b e p =
      p ∙ ap (is_text s (1 + length x + 1 + length y)) (e ∙ ap (λ (v : List ℕ). write_outcome buffer (write_answer x v buffer)) (bytes_all z m y n w h g))
      ∙ sym (write_by ∙ rw (eq-eqb n (length y) h))

pub ruleset written_laws = (write_other, write_told, rules)
