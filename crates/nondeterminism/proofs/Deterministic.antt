-- When `is_nfa` is true, and when it is false: exactly where every symbol has one transition in every state and no epsilon stands.
use Prim.Native.Nat.{ℕ, suc, ◌+◌, ◌≤◌, ◌<◌}
use mathlib.Core.Bool.{true, false, cond, false≢true}
use mathlib.Core.List.Memᴰ
use mathlib.Core.List.{List, [], ◌∷◌}
use mathlib.Core.Logic.{⊎_elim, ◌↔◌}
use mathlib.Core.Path.{◌≡◌, refl, sym, ◌∙◌, ap}
use native.Mathlib.Nat.{eq-or-lt_of_le}
use native.Mathlib.Omega.{arith}
use borrow.Author.Tests.{eq-eqb, eqb-true, eqb-false, ltb-true, ltb-false}
use lib.Dec.{ltb, eqb}
use lib.ListN.{length, get_or, drop}
use lib.Seq.{get_or-drop}
use Rattle.lists.specs.Lists.{◌∈◌, any, filter}
use Rattle.lists.proofs.Tests.{test, and_both, and_parts, or_cases, or_false}
use Rattle.lists.proofs.Lists.{any_in, any_out}
use Rattle.automata.specs.Automaton.{Transition, Automaton, holds, carries, leaving, ranges_of, states, has_epsilon}
use Rattle.automata.specs.WellFormed.{WellFormed, last_symbol}
use Rattle.ranges.specs.Missing.{missing, Free}
use Rattle.ranges.specs.Span.{Span, overlapping}
use Rattle.lists.proofs.Every.{any_none}
use Rattle.automata.proofs.States.{states_in, states_out}
use Rattle.ranges.proofs.Held.{held}
use Rattle.ranges.proofs.Overlap.{overlap_shared, one_each}
use Rattle.ranges.proofs.Sorting.{leaving_sorted}
use Rattle.sheets.specs.Sheet.{records_at, read}
use Rattle.automata.specs.Deterministic.{Deterministic}
use Rattle.nondeterminism.specs.Nondeterminism.{holes_of, is_nfa_at, is_nfa_in, is_nfa, DeterministicAt, Nondeterministic, epsilon, overlap, hole, CompleteAutomaton}
use Rattle.automata.proofs.Leaving.{leaves, leaving_in, leaving_range, range_leaves}
use Rattle.automata.proofs.Records.{records_most}
use Rattle.nondeterminism.proofs.Holes.{state_holes, held_or_free}

none_long : {X : Type 0} (l : List X) → ltb 0 (length l) ≡ false → l ≡ []
none_long [] h = refl
none_long (x ∷ l) h = absurd (omega (arith, ltb-false 0 (suc (length l)) h))

module _ (lower upper : ℕ) (A : Automaton) where
  -- `is_nfa` is false exactly where no state has an epsilon, an overlap or a hole
  pub deterministic_at_exact : (is_nfa lower upper A ≡ false) ↔ ((q : ℕ) → q < A.size → DeterministicAt lower upper (leaving A q))
  unfolding is_nfa is_nfa_in is_nfa_at
  deterministic_at_exact = (
    λ h q l.
        let a = or_false (has_epsilon (leaving A q)) _ (any_none (λ q. is_nfa_at lower upper (leaving A q)) (states A.size) h q (states_in A.size q l)) in
        let b = or_false (overlapping (ranges_of (leaving A q))) _ a.1 in
        record { no_epsilon = a.0; no_overlap = b.0; no_hole = none_long _ b.1 },
    λ f.
        ⊎_elim
        (λ (t : is_nfa lower upper A ≡ true).
        let (q, m, k) = any_out (λ q. is_nfa_at lower upper (leaving A q)) (states A.size) t in
        let s = f q (states_out A.size q m) in
        absurd (false≢true (sym (at_false q s) ∙ k)))
        (λ t. t) (test (is_nfa lower upper A)),
  )
    where
      at_false : (q : ℕ) → DeterministicAt lower upper (leaving A q) → is_nfa_at lower upper (leaving A q) ≡ false
      at_false q s = rw (s.no_epsilon, s.no_overlap, s.no_hole)

  module _ (v : WellFormed A) where
    -- then every symbol has a transition in every state
    pub deterministic_complete : is_nfa lower upper A ≡ false → CompleteAutomaton lower upper A
    deterministic_complete n =
        record {
          next = λ p x h l u. ⊎_elim (λ r. r) (λ (s, m, i). absurd (Memᴰ.not-nil (rw (deterministic_at_exact.0 n p h).no_hole at m))) (held_or_free A v p lower upper x l u);
        }

    not_nondeterministic : is_nfa lower upper A ≡ false → Nondeterministic lower upper A → ⊥
    unfolding has_epsilon carries
    not_nondeterministic n (epsilon e m k) = false≢true (sym (deterministic_at_exact.0 n e.from (v.states.froms e m)).no_epsilon ∙ any_in (λ e. eqb e.kind 0) (leaving_in A e.from e m refl) (eq-eqb _ _ k))
    not_nondeterministic n (overlap q l s) = false≢true (sym (deterministic_at_exact.0 n q l).no_overlap ∙ (overlap_shared (ranges_of (leaving A q)) (leaving_sorted A q v)).1 s)
    not_nondeterministic n (hole q x l a b f) =
        let (e, m, c, k, i, j) = (deterministic_complete n).next q x l a b in
        false≢true (sym (f e m) ∙ and_both _ _ (eq-eqb _ _ c) (and_both _ _ (eq-eqb _ _ k) (held x e i j)))

    unheld : (q x : ℕ) → Free x (ranges_of (leaving A q)) → (e : Transition) → e ∈ A.transitions → carries q x e ≡ false
    unfolding carries
    unheld q x free e m =
        ⊎_elim
        (λ (t : carries q x e ≡ true).
        let p = and_parts (eqb e.from q) _ t in
        let r = and_parts (eqb e.kind 1) (holds x e) p.1 in
        absurd (false≢true (sym (free e (leaving_range A q e (leaving_in A q e m (eqb-true _ _ p.0)) (eqb-true _ _ r.0))) ∙ r.1)))
        (λ t. t) (test (carries q x e))

    first_hole : (q : ℕ) → q < A.size → (hs : List Span) → holes_of lower upper (leaving A q) ≡ hs → 0 < length hs → Nondeterministic lower upper A
    first_hole q l [] c n = absurd (omega arith)
    first_hole q l (h ∷ hs) c n =
        let m : h ∈ holes_of lower upper (leaving A q) = rw c (Memᴰ.head refl) in
        let (a, b, free) = ((state_holes A v q lower upper).exact h.first).0 (h, m, record { above = omega arith; below = (state_holes A v q lower upper).full h m }) in
        hole q h.first l a b (unheld q h.first free)

    -- `is_nfa` is true exactly where there is an epsilon, an overlap or a hole
    pub nondeterministic_exact : (is_nfa lower upper A ≡ true) ↔ Nondeterministic lower upper A
    unfolding is_nfa is_nfa_in is_nfa_at has_epsilon
    nondeterministic_exact = (
      λ h.
          let (q, m, k) = any_out (λ q. is_nfa_at lower upper (leaving A q)) (states A.size) h in
          let l = states_out A.size q m in
          ⊎_elim (λ t. let (e, i, j) = any_out (λ e. eqb e.kind 0) (leaving A q) t in epsilon e (leaves A q e i).0 (eqb-true _ _ j))
          (λ t.
          ⊎_elim (λ u. overlap q l ((overlap_shared (ranges_of (leaving A q)) (leaving_sorted A q v)).0 u)) (λ u. first_hole q l (holes_of lower upper (leaving A q)) refl (ltb-true 0 _ u))
          (or_cases (overlapping (ranges_of (leaving A q))) _ t))
          (or_cases (has_epsilon (leaving A q)) _ k),
      λ u. ⊎_elim (λ t. t) (λ (n : is_nfa lower upper A ≡ false). absurd (not_nondeterministic n u)) (test (is_nfa lower upper A)),
    )

-- the transitions under a symbol are the ranges of the state that hold it
carried : (q x : ℕ) (ts : List Transition) → filter (carries q x) ts ≡ filter (holds x) (filter (λ e. eqb e.kind 1) (filter (λ e. eqb e.from q) ts))
unfolding filter carries
carried q x [] = refl
carried q x (e ∷ ts) =
    let ih = carried q x ts in
    ⊎_elim
    (λ (t : eqb e.from q ≡ true). ⊎_elim (λ (u : eqb e.kind 1 ≡ true). rw (t, u) (ap (λ l. cond (holds x e) (e ∷ l) l) ih)) (λ (u : eqb e.kind 1 ≡ false). rw (t, u) ih) (test (eqb e.kind 1)))
    (λ (t : eqb e.from q ≡ false). rw t ih)
    (test (eqb e.from q))

module _ (lower upper : ℕ) (A : Automaton) (v : WellFormed A) (within : (e : Transition) → e ∈ A.transitions → e.kind ≡ 1 → (lower ≤ e.first) × (e.last ≤ upper)) where
  each : (q : ℕ)
      → ((overlapping (ranges_of (leaving A q)) ≡ false) × (missing lower upper (ranges_of (leaving A q)) ≡ [])) ↔ ((x : ℕ) → lower ≤ x → x ≤ upper → (d : Transition) × (filter (holds x) (ranges_of (leaving A q)) ≡ d ∷ []))
  each q = one_each lower upper (ranges_of (leaving A q)) (leaving_sorted A q v) (λ e m. let (i, c, k) = range_leaves A q e m in within e i k)

  held_are : (q x : ℕ) → filter (carries q x) A.transitions ≡ filter (holds x) (ranges_of (leaving A q))
  unfolding ranges_of leaving
  held_are q x = carried q x A.transitions

  -- `is_nfa` is false exactly where every symbol has one transition in every state and no epsilon stands
  pub deterministic_exact : (is_nfa lower upper A ≡ false) ↔ Deterministic lower upper A
  unfolding holes_of has_epsilon
  deterministic_exact = (
    λ n. record {
      ranges = λ e m.
          let s = (deterministic_at_exact lower upper A).0 n e.from (v.states.froms e m) in
          let k = eqb-false e.kind 0 (any_none (λ e. eqb e.kind 0) (leaving A e.from) s.no_epsilon e (leaving_in A e.from e m refl)) in
          ⊎_elim (λ c. c) (λ (c : e.kind < 1). absurd (k (omega arith))) (eq-or-lt_of_le (v.sound e m).known);
      one = λ q x h l u.
          let s = (deterministic_at_exact lower upper A).0 n q h in
          let (d, c) = (each q).0 (s.no_overlap, s.no_hole) x l u in
          (d, held_are q x ∙ c);
    },
    λ d.
        (deterministic_at_exact lower upper A).1
        (λ q h.
        let p = (each q).1 (λ x l u. let (t, c) = d.one q x h l u in (t, sym (held_are q x) ∙ c)) in
        record { no_epsilon = silent d q; no_overlap = p.0; no_hole = p.1 }),
  )
    where
      silent : Deterministic lower upper A → (q : ℕ) → any (λ e. eqb e.kind 0) (leaving A q) ≡ false
      silent d q =
          ⊎_elim
          (λ (t : any (λ e. eqb e.kind 0) (leaving A q) ≡ true).
          let (e, m, k) = any_out (λ e. eqb e.kind 0) (leaving A q) t in
          absurd (omega (arith, eqb-true e.kind 0 k, d.ranges e (leaves A q e m).0)))
          (λ t. t) (test (any (λ e. eqb e.kind 0) (leaving A q)))

-- the symbols of a sheet of 32-bit words are at most the last symbol
pub read_within : (s : List ℕ) → ((i : ℕ) → get_or s i 0 ≤ last_symbol) → (e : Transition) → e ∈ (read s).transitions → e.kind ≡ 1 → (0 ≤ e.first) × (e.last ≤ last_symbol)
read_within s h e m k = (omega arith, records_most last_symbol (drop (records_at s) s) (λ i. rw (get_or-drop (records_at s) s i 0) (h (records_at s + i))) e m)
