-- An automaton without epsilons or overlaps: no symbol leads from a state to two.
use Prim.Native.Nat.{ℕ}
use mathlib.Core.Bool.{true, false≢true}
use mathlib.Core.List.Memᴰ
use mathlib.Core.List.{List, [], ◌∷◌}
use mathlib.Core.Logic.{⊎_elim}
use mathlib.Core.Path.{◌≡◌, refl, sym, ◌∙◌, ap}
use Rattle.lists.specs.Lists.{◌∈◌}
use Rattle.automata.specs.Automaton.{Transition, Automaton, EpsilonFree, holds, leaving, ranges_of}
use Rattle.automata.specs.WellFormed.{WellFormed}
use Rattle.automata.proofs.Leaving.{leaving_in, leaving_range}
use Rattle.ranges.specs.Span.{OverlapFree, Shared}
use Rattle.ranges.proofs.Overlap.{overlap_shared}
use Rattle.ranges.proofs.Sorting.{leaving_sorted}

-- there is no epsilon, and no symbol leads from a state to two
pub record Functional (B : Automaton) : Type 0 where
  pub ranges : EpsilonFree B
  pub single : (d e : Transition) (x : ℕ) → d ∈ B.transitions → e ∈ B.transitions → d.from ≡ e.from → holds x d ≡ true → holds x e ≡ true → d.to ≡ e.to

-- members that hold the same symbol are one, where none is shared
same_member : (x : ℕ) (d e : Transition) (es : List Transition) → (Shared es → ⊥) → d ∈ es → e ∈ es → holds x d ≡ true → holds x e ≡ true → d ≡ e
same_member x d e [] n a b h k = elim a [ ]
same_member x d e (c ∷ es) n a b h k =
    ⊎_elim
    (λ (p : d ≡ c).
    ⊎_elim (λ (q : e ≡ c). p ∙ sym q) (λ m. absurd (n (Shared.first e x m (rw p at h) k))) (Memᴰ.cases_cons b))
    (λ m.
    ⊎_elim (λ (q : e ≡ c). absurd (n (Shared.first d x m (rw q at k) h))) (λ l. same_member x d e es (λ s. n (Shared.later s)) m l h k) (Memᴰ.cases_cons b))
    (Memᴰ.cases_cons a)

module _ (A : Automaton) (v : WellFormed A) (ranges : EpsilonFree A) (apart : OverlapFree A) where
  pub overlap_functional : Functional A
  overlap_functional =
      record {
        ranges = ranges;
        single = λ d e x m n c h k.
            let q = d.from in
            let none : Shared (ranges_of (leaving A q)) → ⊥ = λ s. false≢true (sym (apart q (v.states.froms d m)) ∙ (overlap_shared (ranges_of (leaving A q)) (leaving_sorted A q v)).1 s) in
            ap (λ (t : Transition). t.to) (same_member x d e (ranges_of (leaving A q)) none (leaving_range A q d (leaving_in A q d m refl) (ranges d m)) (leaving_range A q e (leaving_in A q e n (sym c)) (ranges e n)) h k);
      }
