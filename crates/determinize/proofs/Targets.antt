-- The sets to which a set leads: under each symbol one of them or nothing, and met span by span.
use Rattle.std.proofs.Common.{◌≡◌, ℕ, suc, ◌<◌, ◌≤◌, true, false, ◌⊎◌, List, [], ◌∷◌, ◌++◌, map, sym, refl, ap, ◌∙◌, inl, inr, ⊎_elim, arith}
use mathlib.Core.List.{map-map}
use Rattle.lists.specs.Lists.{◌∈◌, any, filter}
use Rattle.lists.proofs.Lists.{filter_in, filter_out}
use Rattle.lists.proofs.Tests.{test}
use Rattle.automata.specs.Automaton.{Transition, Automaton, Word, none, more, holds}
use Rattle.sets.specs.Sets.{Set}
use Rattle.words.specs.Simulation.{outgoing, step, start_set}
use Rattle.ranges.specs.Span.{Span}
use Rattle.ranges.specs.Cuts.{next_cut, cut_all}
use Rattle.ranges.specs.Missing.{covered}
use Rattle.ranges.proofs.Cuts.{cut_end, cut_step}
use Rattle.lists.proofs.Members.{map_in, map_out}
use Rattle.ranges.proofs.Spans.{cut_stretch, cut_alike, containing}
use Rattle.determinize.specs.Partition.{part_of, partition}
use Rattle.determinize.specs.Determinize.{set_targets}
use Rattle.determinize.specs.inner.Notes.{add_set, meet_sets}
use Rattle.determinize.specs.Reached.{SetReached}
use Rattle.determinize.proofs.Steps.{step_alike, step_free, simulate_end}
use Rattle.determinize.proofs.Tables.{meet_nil, meet_cons, add_empty}

word_end : {lower upper a : ℕ} {w : List ℕ} → Word lower upper w → lower ≤ a → a ≤ upper → Word lower upper (w ++ a ∷ [])
word_end none l u = more l u none
word_end (more p q r) l u = more p q (word_end r l u)

-- the sets to which the spans from a to upper lead, those without a target too
unfoldable pub span_targets : ℕ → ℕ → Automaton → Set → List Set
span_targets a upper A S = map (λ s. step A S s.first) (cut_all a upper (outgoing A S))

module _ (lower upper : ℕ) (A : Automaton) where
  pub reach_step : (S : Set) (a : ℕ) → lower ≤ a → a ≤ upper → SetReached lower upper A S → SetReached lower upper A (step A S a)
  reach_step S a l u r = (r.0 ++ a ∷ [], word_end r.1 l u, simulate_end A (start_set A) r.0 a ∙ ap (λ R. step A R a) r.2)

  module _ (S : Set) where
    es : List Transition
    es = outgoing A S

    targets_held : set_targets lower upper A S ≡ map (λ s. step A S s.first) (filter (covered es) (cut_all lower upper es))
    unfolding set_targets partition part_of es
    targets_held = map-map (λ p. step A S p.first) (part_of A.size es) (filter (covered es) (cut_all lower upper es))

    pub targets_reached : SetReached lower upper A S → (R : Set) → R ∈ set_targets lower upper A S → SetReached lower upper A R
    unfolding es
    targets_reached r R m =
        let t = map_out _ _ R (rw targets_held at m) in
        let s = t.0 in
        let v = cut_stretch lower upper es s (filter_out (covered es) s (cut_all lower upper es) t.1).0 in
        rw t.2 (reach_step S s.first v.above (omega (arith, v.full, v.below)) r)

    pub targets_in : (a : ℕ) → lower ≤ a → a ≤ upper → (step A S a ≡ []) ⊎ (step A S a ∈ set_targets lower upper A S)
    unfolding es covered
    targets_in a l u =
        let h = containing lower upper es a l u in
        let s = h.span in
        let q : step A S a ≡ step A S s.first = step_alike A S a s.first (cut_alike lower upper es s h.in a h.above h.below) in
        ⊎_elim (λ (t : any (holds s.first) es ≡ true). inr (rw (q, targets_held) (map_in (λ s. step A S s.first) (filter_in (covered es) h.in t))))
        (λ (t : any (holds s.first) es ≡ false). inl (q ∙ step_free A S s.first t))
        (test (any (holds s.first) es))

    -- a hole leads to nothing
    meet_held : (l : List Span) (T : List Set) → meet_sets (map (λ s. step A S s.first) (filter (covered es) l)) T ≡ meet_sets (map (λ s. step A S s.first) l) T
    unfolding filter es covered
    meet_held [] T = refl
    meet_held (s ∷ l) T =
        let R = step A S s.first in
        let Rs : List Span → List Set = map (λ s. step A S s.first) in
        ⊎_elim (λ (t : any (holds s.first) es ≡ true). rw t (meet_cons R (Rs (filter (covered es) l)) T ∙ meet_held l (add_set R T) ∙ sym (meet_cons R (Rs l) T)))
        (λ (t : any (holds s.first) es ≡ false).
        rw t (meet_held l T ∙ ap (meet_sets (Rs l)) (sym (ap (λ R. add_set R T) (step_free A S s.first t) ∙ add_empty T)) ∙ sym (meet_cons R (Rs l) T)))
        (test (any (holds s.first) es))

    -- the parts are met span by span
    pub meet_start : (T : List Set) → meet_sets (set_targets lower upper A S) T ≡ meet_sets (span_targets lower upper A S) T
    unfolding span_targets es
    meet_start T = ap (λ l. meet_sets l T) targets_held ∙ meet_held (cut_all lower upper es) T

    pub meet_step : (a : ℕ) (T : List Set) → a ≤ upper
        → meet_sets (span_targets a upper A S) T ≡ meet_sets (span_targets (next_cut a (suc upper) (outgoing A S)) upper A S) (add_set (step A S a) T)
    unfolding span_targets
    meet_step a T h = ap (λ l. meet_sets (map (λ s. step A S s.first) l) T) (cut_step upper (outgoing A S) a h) ∙ meet_cons (step A S a) _ T

    pub meet_end : (a : ℕ) (T : List Set) → upper < a → meet_sets (span_targets a upper A S) T ≡ T
    unfolding span_targets
    meet_end a T h = ap (λ l. meet_sets (map (λ s. step A S s.first) l) T) (cut_end upper (outgoing A S) a h) ∙ meet_nil T
