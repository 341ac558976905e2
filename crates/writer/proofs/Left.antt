-- From the outcome of a call to what stands in the buffer afterwards.
use Prim.Native.Nat.{ℕ, ◌≤◌}
use mathlib.Core.List.{List}
use mathlib.Core.Logic.{◌↔◌}
use mathlib.Core.Path.{◌≡◌, refl, sym, ◌∙◌, ap}
use lib.ListN.{length, take, drop}
use lib.Seq.{sets}
use Rattle.output.proofs.Left.{front_written, behind_written}
use Rattle.refusal.specs.Answer.{Answer, refused, given}
use Rattle.refusal.specs.Outcome.{Outcome}
use Rattle.sheets.proofs.Decisions.{given_not}
use Rattle.writer.specs.Text.{write_outcome}

-- x is the outcome where a is the answer and o is lent
module _ (o : List ℕ) (a : Answer (List ℕ)) (x : Outcome ℕ (List ℕ)) (call : x ≡ write_outcome o a) where
  data Case : Type 0 where
    refuses : (m : ℕ) → a ≡ refused m → x.answer ≡ refused m → x.memory ≡ o → Case
    gives : (t : List ℕ) → a ≡ given t → x.answer ≡ given (length t) → x.memory ≡ sets o 0 t → Case

  case : Case
  unfolding write_outcome
  case = go a refl
    where
      go : (c : Answer (List ℕ)) → a ≡ c → Case
      go (refused m) e = let k = call ∙ ap (write_outcome o) e in refuses m e (ap (λ y. y.answer) k) (ap (λ y. y.memory) k)
      go (given t) e = let k = call ∙ ap (write_outcome o) e in gives t e (ap (λ y. y.answer) k) (ap (λ y. y.memory) k)

  -- a number is answered exactly where the answer has it
  pub call_number : (m : ℕ) → (x.answer ≡ refused m) ↔ (a ≡ refused m)
  call_number m = (out case, into case)
    where
      out : Case → x.answer ≡ refused m → a ≡ refused m
      out (refuses k e f g) h = let z : k ≡ m = cc in e ∙ ap refused z
      out (gives t e f g) h = absurd (given_not _ m (sym f ∙ h))

      into : Case → a ≡ refused m → x.answer ≡ refused m
      into (refuses k e f g) h = let z : k ≡ m = cc in f ∙ ap refused z
      into (gives t e f g) h = absurd (given_not t m (sym e ∙ h))

  -- a length is answered exactly where the answer has a text
  pub call_given : ((n : ℕ) × (x.answer ≡ given n)) ↔ ((t : List ℕ) × (a ≡ given t))
  call_given = (λ (n, h). out n h case, λ (t, h). into t h case)
    where
      out : (n : ℕ) → x.answer ≡ given n → Case → (t : List ℕ) × (a ≡ given t)
      out n h (refuses k e f g) = absurd (given_not n k (sym h ∙ f))
      out n h (gives t e f g) = (t, e)

      into : (t : List ℕ) → a ≡ given t → Case → (n : ℕ) × (x.answer ≡ given n)
      into t h (refuses k e f g) = absurd (given_not t k (sym h ∙ e))
      into t h (gives u e f g) = (length u, f)

  -- with a number the buffer is as it was
  pub call_unchanged : (m : ℕ) → x.answer ≡ refused m → x.memory ≡ o
  call_unchanged m h = go case
    where
      go : Case → x.memory ≡ o
      go (refuses k e f g) = g
      go (gives t e f g) = absurd (given_not _ m (sym f ∙ h))

  -- a length is answered with the text at the front of the buffer, and nothing is changed behind it
  pub call_text : ((t : List ℕ) → a ≡ given t → length t ≤ length o) → (n : ℕ) → x.answer ≡ given n
      → (t : List ℕ) × (a ≡ given t) × (length t ≡ n) × (take n x.memory ≡ t) × (drop n x.memory ≡ drop n o)
  call_text room n h = go case
    where
      go : Case → (t : List ℕ) × (a ≡ given t) × (length t ≡ n) × (take n x.memory ≡ t) × (drop n x.memory ≡ drop n o)
      go (refuses k e f g) = absurd (given_not n k (sym h ∙ f))
      go (gives t e f g) = let z : length t ≡ n = cc in (t, e, z, rw (← z, g) (front_written o t (room t e)), rw (← z, g) (behind_written o t (room t e)))
