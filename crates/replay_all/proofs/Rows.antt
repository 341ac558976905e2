-- Laws of cases of closures: the rows of the table are compared with the lists of the case.
use Prim.Native.Nat.{ℕ, ◌+◌, ◌*◌, ◌≤◌, ◌<◌}
use mathlib.Core.Bool.{Bool, true, false, cond, not, ◌&&◌}
use mathlib.Core.List.{List, [], ◌∷◌}
use mathlib.Core.Path.{◌≡◌, refl, sym, ◌∙◌, ap}
use mathlib.Core.Logic.{⊎_elim}
use native.Mathlib.Nat.{eq-or-lt_of_le}
use native.Mathlib.Omega.{arith}
use borrow.Author.Rules.{rules}
use borrow.Author.Tests.{eq-eqb, ne_eqb, le-leb, lt-leb, not-true, not-false}
use lib.Dec.{eqb}
use lib.ListN.{length, get_or, drop, drop_of_length-le}
use Rattle.std.specs.Prelude.{Result, Ok, Err}
use Rattle.labels.specs.Labels.{same_label}
use Rattle.lists.specs.Lists.{tabulate}
use Rattle.lists.proofs.Lists.{length_tabulate}
use Rattle.lists.proofs.Parts.{drop_at}
use Rattle.refusal.specs.declared.InputRefusal.{InputRefusal}
use Rattle.replay.specs.Cases.{list_at}
use Rattle.sets.specs.Sets.{Set, has}
use Rattle.sets.specs.inner.Members.{members_from}
use Rattle.sets.specs.inner.BitSet.{set_at, entries}
use Rattle.sets.proofs.BitSet.{at_canon}
use Rattle.sets.proofs.Members.{from_all, from_skip, from_here, from_end}
use Rattle.sets.proofs.Steps.{entries_from}
use Rattle.sheets.specs.Checked.{checked_number}
use Rattle.sheets.specs.Fault.{fault}
use Rattle.sheets.specs.Sheet.{state_count, read}
use Rattle.sheets.proofs.Checking.{refused_some}
use Rattle.words.specs.Simulation.{closures}
use Rattle.replay_all.specs.Rows.{are_rows, closures_case}

-- nothing is listed from i on
same_none : (l : List ℕ) (i : ℕ) → i ≤ length l → same_label (drop i l) [] ≡ eqb i (length l)
unfolding same_label
same_none l i h =
    ⊎_elim (λ (e : i ≡ length l). rw (drop_of_length-le l {i = i} (omega arith), eq-eqb i (length l) e))
    (λ (e : i < length l). rw (drop_at l i e, ne_eqb i (length l) (λ z. omega arith)))
    (eq-or-lt_of_le h)

-- the members of a row from q on against the listed ones from i on
pub row_begun : (t l : List ℕ) (o : ℕ) → same_label l (set_at t o) ≡ same_label (drop 0 l) (members_from 0 (set_at t o))
row_begun t l o = ap (same_label l) (sym (from_all (set_at t o)))

module _ (t l : List ℕ) (o i q : ℕ) (e : same_label l (set_at t o) ≡ same_label (drop i l) (members_from q (set_at t o))) where
  module _ (b : Bool) (h : b ≡ has q (set_at t o)) where
    pub row_skip : b ≡ false → same_label l (set_at t o) ≡ same_label (drop i l) (members_from (q + 1) (set_at t o))
    row_skip p =
        e ∙ ap (same_label (drop i l))
        (from_skip (set_at t o) q (q + 1) (omega arith) (λ x a c. let z : x ≡ q = omega arith in ap (λ (k : ℕ). has k (set_at t o)) z ∙ sym h ∙ p))

    module _ (p : b ≡ true) where
      row_here : same_label l (set_at t o) ≡ same_label (drop i l) (q ∷ members_from (q + 1) (set_at t o))
      row_here = e ∙ ap (same_label (drop i l)) (from_here (set_at t o) (at_canon t o) q (sym h ∙ p))

      pub row_short : length l ≤ i → false ≡ same_label l (set_at t o)
      unfolding same_label
      row_short g = sym (row_here ∙ rw (drop_of_length-le l g))

      module _ (g : i < length l) (x : ℕ) (u : x ≡ get_or l i 0) where
        row_at : same_label l (set_at t o) ≡ (eqb x q && same_label (drop (i + 1) l) (members_from (q + 1) (set_at t o)))
        unfolding same_label
        row_at = row_here ∙ rw (drop_at l i g, ← u)

        pub row_other : (x ≡ q → ⊥) → false ≡ same_label l (set_at t o)
        row_other d = sym (row_at ∙ rw (ne_eqb x q d))

        pub row_next : x ≡ q → same_label l (set_at t o) ≡ same_label (drop (i + 1) l) (members_from (q + 1) (set_at t o))
        row_next d = row_at ∙ rw (eq-eqb x q d)

  pub row_ended : i ≤ length l → 256 ≤ q → eqb i (length l) ≡ same_label l (set_at t o)
  row_ended g h = sym (e ∙ ap (same_label (drop i l)) (from_end (set_at t o) (at_canon t o) q h) ∙ same_none l i g)

-- the rows from p on against the lists from the place on
pub rows_begun : (t s : List ℕ) (n at : ℕ) → are_rows (entries t n) s at ≡ are_rows (drop 0 (entries t n)) s at
rows_begun t s n at = refl

entry_end : (t : List ℕ) (n p : ℕ) → n ≤ p → drop p (entries t n) ≡ []
unfolding entries
entry_end t n p h = drop_of_length-le (tabulate n (λ j. set_at t (4 * j))) {i = p} (rw (length_tabulate n (λ j. set_at t (4 * j))) h)

module _ (t s : List ℕ) (n at p next : ℕ) (e : are_rows (entries t n) s at ≡ are_rows (drop p (entries t n)) s next) where
  pub rows_ended : n ≤ p → eqb next (length s) ≡ are_rows (entries t n) s at
  unfolding are_rows
  rows_ended h = sym (e ∙ rw (entry_end t n p h))

  module _ (h : p < n) where
    pub rows_short : length s ≤ next → false ≡ are_rows (entries t n) s at
    unfolding are_rows
    rows_short g = sym (e ∙ rw (entries_from t n p h, le-leb (length s) next g))

    module _ (g : next < length s) (x : List ℕ) (l : x ≡ list_at s next) (b : Bool) (f : b ≡ same_label x (set_at t (4 * p))) where
      rows_at : are_rows (entries t n) s at ≡ cond b (are_rows (drop (p + 1) (entries t n)) s (next + 1 + length x)) false
      unfolding are_rows
      rows_at = e ∙ rw (entries_from t n p h, lt-leb (length s) next g, ← l, ← f)

      pub rows_other : not b ≡ true → false ≡ are_rows (entries t n) s at
      rows_other d = sym (rows_at ∙ rw (not-true b d))

      pub rows_next : not b ≡ false → are_rows (entries t n) s at ≡ are_rows (drop (p + 1) (entries t n)) s (next + 1 + length x)
      rows_next d = rows_at ∙ rw (not-false b d)

pub ruleset rows_laws = (rows_begun, rows_ended, rows_short, rows_other, rows_next, rules)

-- the closures of a sheet
pub closures_told : (s sheet t : List ℕ) (n : ℕ) (b : Bool) → n ≡ get_or sheet 2 0 → entries t (state_count sheet) ≡ closures (read sheet) → b ≡ are_rows (entries t n) s (1 + length sheet)
    → b ≡ are_rows (closures (read sheet)) s (1 + length sheet)
closures_told s sheet t n b e f p = p ∙ ap (λ (T : List Set). are_rows T s (1 + length sheet)) (ap (entries t) e ∙ f)

module _ (s x : List ℕ) (l : x ≡ list_at s 0) (c : Result (Unit {0}) InputRefusal) (d : checked_number c ≡ fault x) where
  pub closures_accepted : c ≡ Ok tt → (b : Bool) → b ≡ are_rows (closures (read x)) s (1 + length x) → b ≡ closures_case s
  unfolding closures_case
  closures_accepted e b p = p ∙ sym (rw (← l, eq-eqb (fault x) 0 (sym d ∙ ap checked_number e)))

  pub closures_refused : (i : InputRefusal) → c ≡ Err i → false ≡ closures_case s
  unfolding closures_case
  closures_refused i e = sym (rw (← l, ne_eqb (fault x) 0 (λ z. refused_some i (sym (ap checked_number e) ∙ d ∙ z))))

pub ruleset closure_laws = (closures_told, closures_accepted, closures_refused, rules)
