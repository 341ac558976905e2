-- A question's answer as the code gives it, read from its contract `decision_of r ≡ a`: the laws by which each question's theorems about its call are proved.
use Prim.Native.Nat.{ℕ, ◌-◌, ◌<◌}
use mathlib.Core.Bool.{Bool, true, false, cond}
use mathlib.Core.List.{List, [], ◌∷◌}
use mathlib.Core.Logic.{◌⊎◌, inl, inr, ⊎_elim, ◌↔◌}
use mathlib.Core.Path.{◌≡◌, refl, sym, ap, ◌∙◌}
use native.Mathlib.Omega.{arith}
use borrow.Author.Tests.{eqb-true, ne_eqb}
use lib.Dec.{eqb}
use lib.ListN.{get_or}
use Rattle.std.specs.Prelude.{Result, Ok, Err}
use Rattle.refusal.specs.Answer.{Answer, refused, given}
use Rattle.refusal.specs.Decision.{decision_of}
use Rattle.refusal.specs.Number.{input_number}
use Rattle.refusal.specs.declared.InputRefusal.{InputRefusal}
use Rattle.refusal.specs.declared.InputRefusal.TheVariants.{SheetLength, Start, Counts, AcceptWord, Record, RecordOrder, Epsilon, Grammar, Utf8, Labels}
use Rattle.refusal.specs.declared.InputRefusal.TheVariants.{EpsilonRecord, NoAcceptingState, Names, AcceptingName, OuterMark}
use Rattle.sheets.specs.Checked.{sheet_first}
use Rattle.sheets.specs.Fault.{fault}
use Rattle.sheets.proofs.Checking.{refused_some}

-- the refusal of a number
abbrev by_number : ℕ → InputRefusal
by_number n = get_or (SheetLength ∷ SheetLength ∷ Start ∷ Counts ∷ AcceptWord ∷ Record ∷ RecordOrder ∷ Epsilon ∷ Grammar ∷ Utf8 ∷ Labels ∷ []) n
    (get_or (EpsilonRecord ∷ NoAcceptingState ∷ Names ∷ AcceptingName ∷ OuterMark ∷ []) (n - 30) SheetLength)

by_number_lem : (i : InputRefusal) → by_number (input_number i) ≡ i
by_number_lem SheetLength = refl
by_number_lem Start = refl
by_number_lem Counts = refl
by_number_lem AcceptWord = refl
by_number_lem Record = refl
by_number_lem RecordOrder = refl
by_number_lem Epsilon = refl
by_number_lem Grammar = refl
by_number_lem Utf8 = refl
by_number_lem Labels = refl
by_number_lem EpsilonRecord = refl
by_number_lem NoAcceptingState = refl
by_number_lem Names = refl
by_number_lem AcceptingName = refl
by_number_lem OuterMark = refl

-- two refusals of one number are the same
number_same : (i j : InputRefusal) → input_number i ≡ input_number j → i ≡ j
number_same i j e = sym (by_number_lem i) ∙ ap by_number e ∙ by_number_lem j

-- no refusal's number is 0
pub number_some : (i : InputRefusal) → 0 < input_number i
number_some i = let n : input_number i ≡ 0 → ⊥ = refused_some i in omega arith

-- a contract and what it says of the answer
module _ (r : Result Bool InputRefusal) (a : Answer Bool) (call : decision_of r ≡ a) where
  is_out : (r : Result Bool InputRefusal) (x : Bool) → decision_of r ≡ given x → r ≡ Ok x
  is_out (Ok y) x e = let q : y ≡ x = cc in ap Ok q
  is_out (Err i) x e = let z : ◌≡◌ {A = ℕ} 0 1 = cc in absurd (omega arith)

  refused_out : (r : Result Bool InputRefusal) (i : InputRefusal) → decision_of r ≡ refused (input_number i) → r ≡ Err i
  refused_out (Ok y) i e = let z : ◌≡◌ {A = ℕ} 0 1 = cc in absurd (omega arith)
  refused_out (Err j) i e = let q : input_number j ≡ input_number i = cc in ap Err (number_same j i q)

  -- a truth is answered exactly where it is given
  pub call_is : (x : Bool) → (r ≡ Ok x) ↔ (a ≡ given x)
  call_is x = (λ e. sym call ∙ ap decision_of e, λ e. is_out r x (call ∙ e))

  -- and a refusal exactly where its number is
  pub call_refused : (i : InputRefusal) → (r ≡ Err i) ↔ (a ≡ refused (input_number i))
  call_refused i = (λ e. sym call ∙ ap decision_of e, λ e. refused_out r i (call ∙ e))

-- an answer behind a sheet's faults is refused with the sheet's number or, where the sheet has no fault, with the answer's
pub sheet_either : {X : Type 0} (s : List ℕ) (a : Answer X) (n : ℕ) → 0 < n → (sheet_first s a ≡ refused n) ↔ ((fault s ≡ n) ⊎ ((fault s ≡ 0) × (a ≡ refused n)))
unfolding sheet_first
sheet_either s a n l = (
  out (eqb (fault s) 0) refl,
  ⊎_elim (λ (e : fault s ≡ n). rw (e, ne_eqb n 0 (λ z. omega arith))) (λ (f, e). rw (f, e)),
)
  where
    out : (c : Bool) → eqb (fault s) 0 ≡ c → cond c a (refused (fault s)) ≡ refused n → (fault s ≡ n) ⊎ ((fault s ≡ 0) × (a ≡ refused n))
    out true h e = inr (eqb-true _ _ h, e)
    out false h e = inl cc

-- what is given is not refused
pub given_not : {X : Type 0} (x : X) (n : ℕ) → given x ≡ refused n → ⊥
given_not x n e = let z : ◌≡◌ {A = ℕ} 0 1 = cc in absurd (omega arith)
