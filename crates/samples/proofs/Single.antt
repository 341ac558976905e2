-- A, B and C accept words of one symbol: up to 9, up to 9 and up to 8.
use Prim.Native.Nat.{ℕ, ◌≤◌, ◌<◌}
use mathlib.Core.Bool.{true, false}
use mathlib.Core.List.Memᴰ
use mathlib.Core.List.{List, [], ◌∷◌}
use mathlib.Core.Logic.{⊎_elim}
use mathlib.Core.Path.{◌≡◌, refl, sym, ap, subst}
use native.Mathlib.Omega.{arith}
use borrow.Author.Tests.{leb-true, leb-false}
use lib.Dec.{leb, lit≤}
use lib.ListN.{get_or}
use Rattle.lists.specs.Lists.{◌∈◌}
use Rattle.lists.proofs.Tests.{test}
use Rattle.automata.specs.Automaton.{Transition, Automaton, Run, stay, skip, read, Accepts}
use Rattle.automata.specs.Records.{read_records}
use Rattle.sheets.specs.Sheet
use Rattle.samples.specs.Samples.{range_transition, A, B, C}

-- all transitions are ranges up to k, and lead from the start, which rejects, to other states
pub record Short (k : ℕ) (X : Automaton) : Type 0 where
  pub start : X.start ≡ 0
  pub rejects : get_or X.accept 0 0 ≡ 0
  pub from : (e : Transition) → e ∈ X.transitions → e.from ≡ 0
  pub kind : (e : Transition) → e ∈ X.transitions → e.kind ≡ 1
  pub last : (e : Transition) → e ∈ X.transitions → e.last ≤ k
  pub to : (e : Transition) → e ∈ X.transitions → 0 < e.to

-- a word of one symbol up to k
abbrev pub Single : ℕ → List ℕ → Type 0
Single k w = (x : ℕ) × (w ≡ x ∷ []) × (x ≤ k)

module _ (k : ℕ) (X : Automaton) (s : Short k X) where
  ended : {p q : ℕ} {w : List ℕ} → 0 < p → Run X p w q → w ≡ []
  ended h stay = refl
  ended h (skip e m f z r) = absurd (omega (arith, s.kind e m))
  ended h (read e m f z l u r) = absurd (omega (arith, s.from e m))

  begun : {p q : ℕ} {w : List ℕ} → p ≡ 0 → Run X p w q → 0 < get_or X.accept q 0 → Single k w
  begun {p} h stay a = let z : 0 < get_or X.accept 0 0 = subst (λ p. 0 < get_or X.accept p 0) h a in absurd (omega (arith, s.rejects))
  begun h (skip e m f z r) a = absurd (omega (arith, s.kind e m))
  begun h (read {a = x} e m f z l u r) a = (x, ap (λ w. x ∷ w) (ended (s.to e m) r), omega (arith, s.last e m))

  pub single : (w : List ℕ) → Accepts X w → Single k w
  single w a = begun s.start a.1 a.2

module _ (k : ℕ) where
  abbrev pub One : Automaton
  One = record { size = 2; start = 0; accept = 0 ∷ 1 ∷ []; transitions = range_transition 0 0 k 1 ∷ [] }

  only : (P : Transition → Type 0) → P (range_transition 0 0 k 1) → (e : Transition) → e ∈ One.transitions → P e
  only P h e m = ⊎_elim (λ (q : e ≡ range_transition 0 0 k 1). subst P (sym q) h) (λ n. absurd (Memᴰ.not-nil n)) (Memᴰ.cases_cons m)

  short_one : Short k One
  short_one =
      record {
        start = refl;
        rejects = refl;
        from = only (λ e. e.from ≡ 0) refl;
        kind = only (λ e. e.kind ≡ 1) refl;
        last = only (λ e. e.last ≤ k) (omega arith);
        to = only (λ e. 0 < e.to) (lit≤ tt);
      }

  pub one_out : (w : List ℕ) → Accepts One w → Single k w
  one_out = single k One short_one

  pub one_in : (w : List ℕ) → Single k w → Accepts One w
  one_in w (x, e, h) = subst (Accepts One) (sym e) (1, read (range_transition 0 0 k 1) (Memᴰ.head refl) refl refl (omega arith) h stay, lit≤ tt)

abbrev Two : Automaton
Two = record { size = 3; start = 0; accept = 0 ∷ 1 ∷ 1 ∷ []; transitions = range_transition 0 0 4 1 ∷ range_transition 0 5 9 2 ∷ [] }

either : (P : Transition → Type 0) → P (range_transition 0 0 4 1) → P (range_transition 0 5 9 2) → (e : Transition) → e ∈ Two.transitions → P e
either P h k e m =
    ⊎_elim (λ (q : e ≡ range_transition 0 0 4 1). subst P (sym q) h)
    (λ n. ⊎_elim (λ (q : e ≡ range_transition 0 5 9 2). subst P (sym q) k) (λ n. absurd (Memᴰ.not-nil n)) (Memᴰ.cases_cons n))
    (Memᴰ.cases_cons m)

short_two : Short 9 Two
short_two =
    record {
      start = refl;
      rejects = refl;
      from = either (λ e. e.from ≡ 0) refl refl;
      kind = either (λ e. e.kind ≡ 1) refl refl;
      last = either (λ e. e.last ≤ 9) (lit≤ tt) (lit≤ tt);
      to = either (λ e. 0 < e.to) (lit≤ tt) (lit≤ tt);
    }

two_in : (w : List ℕ) → Single 9 w → Accepts Two w
two_in w (x, e, h) =
    subst (Accepts Two) (sym e)
    (⊎_elim (λ (t : leb x 4 ≡ true). (1, read (range_transition 0 0 4 1) (Memᴰ.head refl) refl refl (omega arith) (leb-true x 4 t) stay, lit≤ tt))
    (λ (t : leb x 4 ≡ false). (2, read (range_transition 0 5 9 2) (Memᴰ.tail (Memᴰ.head refl)) refl refl (omega (arith, leb-false x 4 t)) h stay, lit≤ tt))
    (test (leb x 4)))

pub a_single : (w : List ℕ) → (Accepts (Sheet.read A) w → Single 9 w) × (Single 9 w → Accepts (Sheet.read A) w)
unfolding read_records
a_single w = (one_out 9 w, one_in 9 w)

pub b_single : (w : List ℕ) → (Accepts (Sheet.read B) w → Single 9 w) × (Single 9 w → Accepts (Sheet.read B) w)
unfolding read_records
b_single w = (single 9 Two short_two w, two_in w)

pub c_single : (w : List ℕ) → (Accepts (Sheet.read C) w → Single 8 w) × (Single 8 w → Accepts (Sheet.read C) w)
unfolding read_records
c_single w = (one_out 8 w, one_in 8 w)
