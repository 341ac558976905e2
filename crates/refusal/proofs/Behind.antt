-- An answer behind a refusal that a test decides: where it is given, and where each number is answered.
use Prim.Native.Nat.{ℕ}
use mathlib.Core.Bool.{Bool, true, false, cond}
use mathlib.Core.Logic.{◌↔◌}
use mathlib.Core.Path.{◌≡◌, refl}
use native.Mathlib.Omega.{arith}
use Rattle.refusal.specs.Answer.{Answer, refused, given}

-- an answer behind the refusal r, which is given where a test passes; C says that it passes, and D that it fails
module _ {X C D : Type 0} (c : Bool) (r : ℕ) (a : Answer X) (yes : (c ≡ true) ↔ C) (no : (c ≡ false) ↔ D) where
  pub behind_given : (x : X) → (cond c (refused r) a ≡ given x) ↔ (D × (a ≡ given x))
  behind_given x = (out c refl, λ (d, e). rw (no.1 d) e)
    where
      out : (b : Bool) → c ≡ b → cond b (refused r) a ≡ given x → D × (a ≡ given x)
      out true h e = let z : ◌≡◌ {A = ℕ} 0 1 = cc in absurd (omega arith)
      out false h e = (no.0 h, e)

  pub behind_number : (m : ℕ) → (m ≡ r → ⊥) → (cond c (refused r) a ≡ refused m) ↔ (D × (a ≡ refused m))
  behind_number m other = (out c refl, λ (d, e). rw (no.1 d) e)
    where
      out : (b : Bool) → c ≡ b → cond b (refused r) a ≡ refused m → D × (a ≡ refused m)
      out true h e = let z : m ≡ r = cc in absurd (other z)
      out false h e = (no.0 h, e)

  pub behind_refused : (a ≡ refused r → ⊥) → (cond c (refused r) a ≡ refused r) ↔ C
  behind_refused other = (out c refl, λ x. rw (yes.1 x))
    where
      out : (b : Bool) → c ≡ b → cond b (refused r) a ≡ refused r → C
      out true h e = yes.0 h
      out false h e = absurd (other e)
