-- From the reply of a C function to the outcome of the call behind it.
use Prim.Native.Nat.{ℕ}
use mathlib.Core.Logic.{◌↔◌}
use mathlib.Core.Path.{◌≡◌, refl, sym, ◌∙◌, ap}
use Rattle.refusal.specs.Answer.{Answer, refused, given}
use Rattle.refusal.specs.Outcome.{Outcome}
use Rattle.refusal.specs.Reply.{Reply, reply_with, reply}
use Rattle.sheets.proofs.Decisions.{given_not}

-- r is the reply to the outcome x, where the cells held c
module _ {C M : Type 0} (c : C) (x : Outcome C M) (r : Reply C M) (call : r ≡ reply c x) where
  data Case : Type 0 where
    refuses : (m : ℕ) → x.answer ≡ refused m → r.code ≡ m → r.cells ≡ c → r.memory ≡ x.memory → Case
    gives : (y : C) → x.answer ≡ given y → r.code ≡ 0 → r.cells ≡ y → r.memory ≡ x.memory → Case

  case : Case
  case = go x.answer refl
    where
      go : (a : Answer C) → x.answer ≡ a → Case
      go (refused m) e = let k = call ∙ ap (λ y. reply_with c y x.memory) e in refuses m e (ap (λ z. z.code) k) (ap (λ z. z.cells) k) (ap (λ z. z.memory) k)
      go (given y) e = let k = call ∙ ap (λ y. reply_with c y x.memory) e in gives y e (ap (λ z. z.code) k) (ap (λ z. z.cells) k) (ap (λ z. z.memory) k)

  -- the memory is that of the outcome
  pub reply_memory : r.memory ≡ x.memory
  reply_memory = go case
    where
      go : Case → r.memory ≡ x.memory
      go (refuses m e k i j) = j
      go (gives y e k i j) = j

  -- a code other than 0 is the refusal's number
  pub reply_number : (m : ℕ) → (m ≡ 0 → ⊥) → (r.code ≡ m) ↔ (x.answer ≡ refused m)
  reply_number m some = (out case, into case)
    where
      out : Case → r.code ≡ m → x.answer ≡ refused m
      out (refuses n e k i j) h = e ∙ ap refused (sym k ∙ h)
      out (gives y e k i j) h = absurd (some (sym h ∙ k))

      into : Case → x.answer ≡ refused m → r.code ≡ m
      into (refuses n e k i j) h = let q : refused n ≡ refused m = sym e ∙ h in let z : n ≡ m = cc in k ∙ z
      into (gives y e k i j) h = let q : given y ≡ refused m = sym e ∙ h in absurd (given_not y m q)

  -- with the code 0 the cells hold what is given, if no refusal has that number
  pub reply_given : (x.answer ≡ refused 0 → ⊥) → r.code ≡ 0 → x.answer ≡ given r.cells
  reply_given some h = go case
    where
      go : Case → x.answer ≡ given r.cells
      go (refuses n e k i j) = absurd (some (e ∙ ap refused (sym k ∙ h)))
      go (gives y e k i j) = e ∙ ap given (sym i)

  -- the code is 0 exactly where something is given, if no refusal has that number
  pub reply_zero : (x.answer ≡ refused 0 → ⊥) → (r.code ≡ 0) ↔ ((y : C) × (x.answer ≡ given y))
  reply_zero some = (λ h. (r.cells, reply_given some h), λ (y, h). go y h case)
    where
      go : (y : C) → x.answer ≡ given y → Case → r.code ≡ 0
      go y h (refuses n e k i j) = absurd (given_not y n (sym h ∙ e))
      go y h (gives z e k i j) = k

  -- with another the cells are as they were
  pub reply_kept : (r.code ≡ 0 → ⊥) → r.cells ≡ c
  reply_kept some = go case
    where
      go : Case → r.cells ≡ c
      go (refuses n e k i j) = i
      go (gives y e k i j) = absurd (some k)
