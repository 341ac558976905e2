-- The records of a state in which every symbol between the ends has one transition, as a run of words.
use Prim.Native.Nat.{ℕ, ◌+◌, ◌*◌, ◌≤◌, ◌<◌}
use mathlib.Core.List.{List}
use mathlib.Core.Logic.{◌⊎◌, inl, inr, ⊎_elim}
use mathlib.Core.Path.{◌≡◌, sym, subst}
use native.Mathlib.Nat.{eq-or-lt_of_le}
use native.Mathlib.Omega.{arith}
use borrow.Author.Tests.{eq-eqb, ltb-true, ltb-false}
use lib.Dec.{ltb, eqb}
use lib.ListN.{length, get_or}
use Rattle.lists.specs.Lists.{Ascending}
use Rattle.lists.proofs.Lists.{filter_all}
use Rattle.lists.proofs.Members.{ascending_places}
use Rattle.lists.proofs.Tests.{test}
use Rattle.automata.specs.Automaton.{Transition, Automaton, leaving, ranges_of}
use Rattle.automata.specs.Deterministic.{Deterministic}
use Rattle.automata.specs.Records.{write_records}
use Rattle.automata.specs.Successors.{successor}
use Rattle.automata.specs.WellFormed.{WellFormed}
use Rattle.automata.proofs.Leaving.{leaves, leaving_in}
use Rattle.automata.proofs.Records.{length_write, written_at, written_mem, written_place}
use Rattle.automata.proofs.Successors.{successor_is, successor_held}
use Rattle.ranges.proofs.Sorting.{leaving_sorted}

-- record j of l holds x
abbrev pub In : List ℕ → ℕ → ℕ → Type 0
In l j x = (get_or l (5 * j + 2) 0 ≤ x) × (x ≤ get_or l (5 * j + 3) 0)

-- l has the records of the transitions that leave p
pub record RunOf (D : Automaton) (lower upper p : ℕ) (l : List ℕ) : Type 0 where
  pub count : ℕ
  pub whole : length l ≡ 5 * count
  pub leads : (j x : ℕ) → j < count → lower ≤ x → x ≤ upper → get_or l (5 * j + 2) 0 ≤ x → x ≤ get_or l (5 * j + 3) 0 → successor D p x ≡ get_or l (5 * j + 4) 0
  pub inside : (j : ℕ) → j < count → get_or l (5 * j + 4) 0 < D.size
  pub full : (x : ℕ) → lower ≤ x → x ≤ upper → (j : ℕ) × (j < count) × In l j x
  pub rises : (i j : ℕ) → i ≤ j → j < count → get_or l (5 * i + 2) 0 ≤ get_or l (5 * j + 2) 0

-- a symbol up to the end of record j is held by a record before it, or by record j
pub up_to : {D : Automaton} {lower upper p : ℕ} {l : List ℕ} → RunOf D lower upper p l → (j x : ℕ) → lower ≤ x → x ≤ upper → x ≤ get_or l (5 * j + 3) 0 → ((i : ℕ) × (i < j) × In l i x) ⊎ In l j x
up_to r j x above below h =
    let f = r.full x above below in
    ⊎_elim (λ t. inl (f.0, ltb-true _ _ t, f.2)) (λ t. let k = ltb-false f.0 j t in inr (omega (arith, r.rises j f.0 k f.1, f.2.0), h)) (test (ltb f.0 j))

module _ (lower upper : ℕ) (D : Automaton) (det : Deterministic lower upper D) (well : WellFormed D) (p : ℕ) (p_in : p < D.size) where
  -- the transitions that leave p, which all are ranges, ascend by their first symbols
  firsts : Ascending (λ d e. d.first ≤ e.first) (leaving D p)
  unfolding ranges_of
  firsts =
      subst (Ascending (λ d e. d.first ≤ e.first)) (filter_all (λ e. eqb e.kind 1) (leaving D p) (λ e m. eq-eqb _ _ (det.ranges e (leaves D p e m).0)))
      (leaving_sorted D p well).rises

  pub run_of : (l : List ℕ) → l ≡ write_records (leaving D p) → RunOf D lower upper p l
  run_of l is = subst (RunOf D lower upper p) (sym is) (record {
    count = length (leaving D p);
    whole = length_write (leaving D p);
    leads = λ j x h above below a b. let k = leaves D p _ (written_mem (leaving D p) j h) in successor_is lower upper D det p x p_in above below _ k.0 k.1 a b;
    inside = λ j h. well.states.tos _ (leaves D p _ (written_mem (leaving D p) j h)).0;
    full = λ x above below.
        let e = successor_held lower upper D det p x p_in above below in
        let w = written_place (leaving D p) e.0 (leaving_in D p e.0 e.1 e.2) in
        (w.0, w.1, (subst (λ (d : Transition). d.first ≤ x) (sym w.2) e.3, subst (λ (d : Transition). x ≤ d.last) (sym w.2) e.4));
    rises = λ i j h j_in.
        ⊎_elim (λ (e : i ≡ j). rw e (omega arith))
        (λ k. ascending_places i j (leaving D p) firsts k _ _ _ _ (written_at (leaving D p) i (omega arith)) (written_at (leaving D p) j j_in)) (eq-or-lt_of_le h);
  })
