-- The ranges that leave a set, and the next cut among them, member by member.
use Prim.Native.Nat.{ℕ, ◌+◌, ◌≤◌, ◌<◌}
use mathlib.Core.Bool.{Bool, true, false, ◌&&◌, ◌||◌, and-false, false≢true}
use mathlib.Core.List.{List, [], ◌∷◌, ◌++◌}
use mathlib.Core.Logic.{⊎_elim}
use mathlib.Core.Path.{◌≡◌, refl, sym, ◌∙◌, ap}
use native.Mathlib.Omega.{arith}
use borrow.Author.Tests.{eqb-true, ne_eqb, leb-true}
use lib.Dec.{eqb, leb}
use Rattle.lists.specs.Lists.{any, filter}
use Rattle.lists.proofs.Lists.{filter_ext, filter_and, filter_none, filter_out}
use Rattle.lists.proofs.Members.{filter_either}
use Rattle.lists.proofs.Tests.{test, and_parts}
use Rattle.automata.specs.Automaton.{Transition, Automaton, holds, leaving, ranges_of}
use Rattle.automata.specs.Records.{read_records, write_records}
use Rattle.automata.specs.WellFormed.{Before, WellFormed}
use Rattle.automata.proofs.Ordered.{before_from}
use Rattle.automata.proofs.Records.{read_write}
use Rattle.sets.specs.Sets.{Set, has}
use Rattle.sets.specs.inner.Members.{Canon, members_from, next_member}
use Rattle.sets.proofs.Sets.{no_member, pick_out, has_mem}
use Rattle.sets.proofs.Members.{from_end, visit_start, visit_next, next_above}
use Rattle.ranges.specs.Cuts.{next_cut}
use Rattle.ranges.proofs.Cuts.{next_append}
use Rattle.words.specs.Simulation.{closure, outgoing, step}

module _ (A : Automaton) where
  -- no range leaves the empty set, and no symbol leads anywhere from it
  pub outgoing_nil : outgoing A [] ≡ []
  unfolding outgoing has
  outgoing_nil = filter_none _ A.transitions (λ e m. and-false (eqb e.kind 1))

  pub step_nil : (a : ℕ) → step A [] a ≡ []
  unfolding step any
  step_nil a =
      no_member (step A [] a)
      (λ q h.
      let f : any (λ d. holds a d && has q (closure A d.to)) (outgoing A []) ≡ true = (pick_out 0 A.size _ q h).2 in
      false≢true (sym (ap (any (λ d. holds a d && has q (closure A d.to))) outgoing_nil) ∙ f))

module _ (A : Automaton) (w : WellFormed A) where
  -- a member below all others
  outgoing_cons : (q : ℕ) (R : Set) → ((x : ℕ) → has x R ≡ true → q < x) → outgoing A (q ∷ R) ≡ ranges_of (leaving A q) ++ outgoing A R
  unfolding outgoing has leaving ranges_of
  outgoing_cons q R h =
      let f : Transition → Bool = λ e. eqb e.from q && eqb e.kind 1 in
      let g : Transition → Bool = λ e. eqb e.kind 1 && has e.from R in
      filter_ext (λ e. eqb e.kind 1 && (eqb e.from q || has e.from R)) (λ e. f e || g e) A.transitions
      (λ e m. split (eqb e.kind 1) (eqb e.from q) (has e.from R))
      ∙ filter_either {R = Before} f g
      (λ e p. apart e (eqb-true _ _ (and_parts (eqb e.from q) _ p).0))
      (λ d e b p.
      let k = h d.from (and_parts (eqb d.kind 1) _ p).1 in
      let r = before_from d e b in
      rw (ne_eqb e.from q (λ c. omega arith)))
      w.ascends
      ∙ ap (λ l. l ++ filter g A.transitions) (filter_and (λ e. eqb e.from q) (λ e. eqb e.kind 1) A.transitions)
    where
      split : (k f r : Bool) → (k && (f || r)) ≡ ((f && k) || (k && r))
      split true true r = refl
      split true false r = refl
      split false true r = refl
      split false false r = refl

      apart : (e : Transition) → e.from ≡ q → (eqb e.kind 1 && has e.from R) ≡ false
      apart e c =
          ⊎_elim (λ (t : has e.from R ≡ true). let k = h e.from t in absurd (omega arith)) (λ (t : has e.from R ≡ false). rw t (and-false (eqb e.kind 1)))
          (test (has e.from R))

  -- the next cut, with what was found among the members before q
  module _ (S : Set) (c : Canon 256 S) (a top : ℕ) where
    pub member_cut_begins : (q : ℕ) → q ≡ next_member S 0 → next_cut a top (outgoing A (members_from q S)) ≡ next_cut a top (outgoing A S)
    member_cut_begins q e = ap (λ R. next_cut a top (outgoing A R)) (visit_start S c q e)

    pub member_cut_next : (q x found next : ℕ) (run : List ℕ) → next_cut a found (outgoing A (members_from q S)) ≡ next_cut a top (outgoing A S) → q ≡ next_member S q → q < 256
        → x ≡ next_member S (q + 1) → run ≡ write_records (leaving A q) → next ≡ next_cut a found (ranges_of (read_records run))
        → next_cut a next (outgoing A (members_from x S)) ≡ next_cut a top (outgoing A S)
    unfolding members_from
    member_cut_next q x found next run i h l k r e =
        let R = members_from x S in
        let u : q < x = omega (arith, k, next_above S c (q + 1) (omega arith)) in
        let above : (y : ℕ) → has y R ≡ true → q < y = λ y m. let z = leb-true x y (filter_out (leb x) y S (has_mem y R m)).1 in omega arith in
        ap (λ t. next_cut a t (outgoing A R)) (e ∙ ap (λ v. next_cut a found (ranges_of (read_records v))) r ∙ ap (λ es. next_cut a found (ranges_of es)) (read_write (leaving A q)))
        ∙ sym (next_append a found (ranges_of (leaving A q)) (outgoing A R))
        ∙ ap (next_cut a found) (sym (outgoing_cons q R above))
        ∙ ap (λ M. next_cut a found (outgoing A M)) (sym (visit_next S c q x h l k))
        ∙ i

    pub member_cut_ended : (q found : ℕ) → next_cut a found (outgoing A (members_from q S)) ≡ next_cut a top (outgoing A S) → 256 ≤ q → found ≡ next_cut a top (outgoing A S)
    unfolding next_cut
    member_cut_ended q found i l = sym (ap (next_cut a found) (ap (outgoing A) (from_end S c q l) ∙ outgoing_nil A)) ∙ i
