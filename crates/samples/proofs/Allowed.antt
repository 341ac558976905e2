-- The lines of `verdict` that document 01's samples have are allowed: A and B are equal with 4 joins, and 9 tells A and C apart.
use Prim.Native.Nat.{ℕ}
use mathlib.Core.Bool.{true, false}
use mathlib.Core.List.{List, [], ◌∷◌}
use mathlib.Core.Logic.{⊎_elim}
use mathlib.Core.Path.{◌≡◌, refl, sym, subst}
use native.Mathlib.Omega.{arith}
use borrow.Author.Tests.{eqb-true, eqb-false}
use lib.Dec.{eqb, lit≤}
use Rattle.lists.specs.Lists.{filter}
use Rattle.lists.proofs.Tests.{test}
use Rattle.automata.specs.Automaton.{Word, none, more, carries, holds}
use Rattle.automata.specs.WellFormed.{last_symbol}
use Rattle.automata.specs.Successors.{successor, state_after, accept_after}
use Rattle.automata.proofs.SameWords.{not_same}
use Rattle.determinizations.specs.Two.{Two}
use Rattle.determinizations.proofs.Theorems.{one_word}
use Rattle.equality.specs.Verdict.{Equal, Apart}
use Rattle.refusal.specs.Answer.{Answer, given}
use Rattle.sheets.specs.Sheet.{read}
use Rattle.verdict_line.specs.Line.{VerdictLine, same, differs, same_line, differ_line}
use Rattle.samples.proofs.Patterns.{determinized, DC}
use Rattle.samples.specs.Samples.{A, B, DA, DB, both_determinized}
use Rattle.samples.proofs.Three.{three, well_a, well_b}
use Rattle.samples.proofs.Verdicts.{same_ab}

equal_4 : Equal both_determinized 4
equal_4 = record { words = agree; number = 3; counted = three; joined = refl }
  where
    agree : (w : List ℕ) → Word 0 last_symbol w → accept_after DA w ≡ accept_after DB w
    agree w v =
        ⊎_elim (λ (t : eqb (accept_after DA w) (accept_after DB w) ≡ true). eqb-true _ _ t)
        (λ (t : eqb (accept_after DA w) (accept_after DB w) ≡ false).
        let one = one_word 0 last_symbol (read A) (read B) well_a well_b DA DB determinized.0 determinized.1 w v (eqb-false _ _ t) in
        absurd (not_same 0 last_symbol (read A) (read B) w one v same_ab))
        (test (eqb (accept_after DA w) (accept_after DB w)))

abbrev others : Two
others = record { one = DA; two = DC; lower = 0; upper = last_symbol }

apart_9 : Apart others (9 ∷ [])
unfolding state_after successor filter carries holds
apart_9 = record { word = more (lit≤ tt) (lit≤ tt) none; short = lit≤ tt; differ = λ e. omega arith }

pub allowed_same_4 : (x : Answer Two) → x ≡ given both_determinized → VerdictLine x (same_line 4)
allowed_same_4 x e = subst (λ (y : Answer Two). VerdictLine y (same_line 4)) (sym e) (same both_determinized 4 equal_4)

pub allowed_differ_9 : (x : Answer Two) → x ≡ given others → VerdictLine x (differ_line (9 ∷ []))
allowed_differ_9 x e = subst (λ (y : Answer Two). VerdictLine y (differ_line (9 ∷ []))) (sym e) (differs others (9 ∷ []) apart_9)
