-- Laws of lists that are stored as bytes, and of the cases that have one: the stored bytes are the list.
use Prim.Native.Nat.{ℕ, ◌+◌, ◌≤◌}
use mathlib.Core.Bool.{Bool, false, cond}
use mathlib.Core.List.{List}
use mathlib.Core.Path.{◌≡◌, sym, ◌∙◌, ap}
use native.Mathlib.Omega.{arith}
use borrow.Author.Rules.{rules}
use borrow.Author.Tests.{eq-eqb, ne_eqb}
use lib.Dec.{eqb}
use lib.ListN.{length, get_or, take, drop}
use lib.Seq.{sets, sets-eq, take_at, take_all}
use Rattle.std.specs.Prelude.{Result, Ok, Err}
use Rattle.labels.specs.Checked.{checked_number}
use Rattle.labels.specs.Labels.{labels_fault}
use Rattle.stores.specs.Written.{Written}
use Rattle.stores.proofs.Written.{written_length}
use Rattle.refusal.specs.declared.InputRefusal.{InputRefusal}
use Rattle.refusal.specs.Number.{input_number}
use Rattle.replay.specs.Cases.{list_at, is_last, bytes_before}
use Rattle.words.specs.Acceptance.{accepts_text_answer, acceptance_of}
use Rattle.replay_all.specs.Decided.{labels_case, accepted, text_case}

-- a list that was stored whole
pub bytes_all : (z m x : List ℕ) (k : ℕ) → Written z 0 (take k x) m k → k ≡ length x → k ≤ length m → take k m ≡ x
bytes_all z m x k w f g =
    ap (take k) (w.stored ∙ ap (sets z 0) (take_all k x (omega arith)) ∙ sets-eq x z 0 (omega (arith, written_length z m (take k x) 0 k w)))
    ∙ take_at x (drop (0 + length x) z) k (sym f)

-- the labels of a case
module _ (s x : List ℕ) (l : x ≡ list_at s 1) (some : length s ≡ 0 → ⊥) (n : ℕ) (q : n ≡ bytes_before (take 1024 x)) where
  labels_by : labels_case s ≡ cond (eqb n (length x)) (is_last s (2 + length x) (labels_fault (get_or s 0 0) x)) false
  unfolding labels_case
  labels_by = rw (ne_eqb (length s) 0 some, ← l, ← q)

  pub labels_other : (n ≡ length x → ⊥) → false ≡ labels_case s
  labels_other h = sym (labels_by ∙ rw (ne_eqb n (length x) h))

  module _ (h : n ≡ length x) (z m : List ℕ) (w : Written z 0 (take n x) m n) (g : n ≤ length m) (k : ℕ) (e : k ≡ get_or s 0 0) (c : Result (Unit {0}) InputRefusal)
      (d : checked_number c ≡ labels_fault k (take n m)) (b : Bool) where
    labels_fault_lem : labels_fault (get_or s 0 0) x ≡ checked_number c
    labels_fault_lem = sym (d ∙ rw (bytes_all z m x n w h g, e))

    pub labels_accepted : c ≡ Ok tt → b ≡ is_last s (2 + length x) 0 → b ≡ labels_case s
    labels_accepted f p = p ∙ sym (labels_by ∙ rw (eq-eqb n (length x) h) (ap (is_last s (2 + length x)) (labels_fault_lem ∙ ap checked_number f)))

    pub labels_refused : (i : InputRefusal) (r : ℕ) → c ≡ Err i → r ≡ input_number i → b ≡ is_last s (2 + length x) r → b ≡ labels_case s
    labels_refused i r f u p =
        p ∙ sym (labels_by ∙ rw (eq-eqb n (length x) h) (ap (is_last s (2 + length x)) (labels_fault_lem ∙ ap checked_number f ∙ sym u)))

pub labels_none : (s : List ℕ) → length s ≡ 0 → false ≡ labels_case s
unfolding labels_case
labels_none s h = sym (rw (eq-eqb (length s) 0 h))

-- the text of a case
module _ (s x y : List ℕ) (l : x ≡ list_at s 0) (k : y ≡ list_at s (1 + length x)) (n : ℕ) (q : n ≡ bytes_before (take 1024 y)) where
  text_by : text_case s ≡ cond (eqb n (length y)) (accepted s (1 + length x + 1 + length y) (accepts_text_answer x y)) false
  unfolding text_case
  text_by = rw (← l, ← k, ← q)

  pub text_other : (n ≡ length y → ⊥) → false ≡ text_case s
  text_other h = sym (text_by ∙ rw (ne_eqb n (length y) h))

  pub text_told : n ≡ length y → (z m : List ℕ) → Written z 0 (take n y) m n → n ≤ length m → (a : Result ℕ InputRefusal) (b : Bool)
      → b ≡ accepted s (1 + length x + 1 + length y) (acceptance_of a) → acceptance_of a ≡ accepts_text_answer x (take n m) → b ≡ text_case s
  text_told h z m w g a b p e =
      p ∙ ap (accepted s (1 + length x + 1 + length y)) (e ∙ ap (accepts_text_answer x) (bytes_all z m y n w h g)) ∙ sym (text_by ∙ rw (eq-eqb n (length y) h))

pub ruleset label_laws = (labels_none, labels_other, labels_accepted, labels_refused, rules)

pub ruleset text_laws = (text_other, text_told, rules)
