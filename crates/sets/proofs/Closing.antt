-- Warshall's closure, round by round: which rows need no round, and the rows after each.
use Prim.Native.Nat.{ℕ, ◌+◌, ◌-◌, ◌*◌, ◌≤◌, ◌<◌}
use mathlib.Core.Bool.{Bool, true, false, ◌||◌}
use mathlib.Core.List.{List, [], map}
use mathlib.Core.Logic.{⊎_elim}
use mathlib.Core.Path.{◌≡◌, refl, sym, ◌∙◌, ap, ap₂, subst}
use native.Mathlib.Nat.{eq-or-lt_of_le, le_trans}
use native.Mathlib.Numerals.{add-one}
use native.Mathlib.Omega.{arith}
use borrow.Author.Rules.{rules}
use borrow.Author.Tests.{ltb-false, lt-ltb, le-ltb}
use lib.Dec.{ltb}
use lib.ListN.{get_or, length, take, drop}
use lib.Seq.{get_or-take, get_or-drop}
use Rattle.lists.specs.Lists.{tabulate}
use Rattle.lists.proofs.Lists.{tabulate_ext, map_tabulate}
use Rattle.lists.proofs.Tests.{test, true_same, or_cases, or_left, or_false}
use Rattle.sets.specs.Sets.{Set, has}
use Rattle.sets.specs.inner.Members.{Canon, next_member}
use Rattle.sets.specs.inner.BitSet.{set_at, entries}
use Rattle.sets.specs.inner.Words.{visit_rows}
use Rattle.sets.specs.Closure.{through, closed}
use Rattle.sets.specs.inner.Rows.{RowsBelow, ClosedTo, leads_on}
use Rattle.sets.proofs.Sets.{pick_ext, has_below}
use Rattle.sets.proofs.BitSet.{entry_at, at_canon, sets_by_words}
use Rattle.sets.proofs.Members.{next_least}
use Rattle.sets.proofs.Rounds.{row, through_canon, visits_rows}

-- a row whose least member isn't below k and that has none above k has none but k
pub leads_nowhere : (k : ℕ) (S : Set) → Canon 256 S → leads_on k S ≡ false → (q : ℕ) → has q S ≡ true → q ≡ k
unfolding leads_on
leads_nowhere k S c e q h =
    let f = or_false (ltb (next_member S 0) k) _ e in
    let a : k ≤ next_member S 0 = ltb-false _ _ f.0 in
    let b : 256 ≤ next_member S (k + 1) = ltb-false _ _ f.1 in
    let m = next_least S c 0 q h (omega arith) in
    let o = has_below 256 S c q h in
    ⊎_elim (λ (z : k ≡ q). sym z) (λ (z : k < q). let n = next_least S c (k + 1) q h (omega arith) in absurd (omega arith)) (eq-or-lt_of_le (le_trans a m))

-- a row as a part of the table
part_row : (t : List ℕ) (o : ℕ) → set_at (take (o + 4 - o) (drop o t)) 0 ≡ set_at t o
part_row t o =
    sets_by_words (take (o + 4 - o) (drop o t)) t 0 o
    (λ i l.
    let n : o + 4 - o ≡ 4 = omega arith in
    let z : 0 + i ≡ i = omega arith in
    rw (n, z) (get_or-take 4 (drop o t) i 0 l ∙ get_or-drop o t i 0))

module _ (t : List ℕ) (k : ℕ) (m : ℕ) (e : m ≡ next_member (set_at (take (4 * k + 4 - 4 * k) (drop (4 * k) t)) 0) 0) where
  pub leads_below : m < k → true ≡ leads_on k (set_at t (4 * k))
  unfolding leads_on
  leads_below h = sym (rw (lt-ltb _ _ (subst (λ x. x < k) (e ∙ ap (λ S. next_member S 0) (part_row t (4 * k))) h)))

  pub leads_above : k ≤ m → (x : ℕ) → x ≡ next_member (set_at (take (4 * k + 4 - 4 * k) (drop (4 * k) t)) 0) (k + 1) → ltb x 256 ≡ leads_on k (set_at t (4 * k))
  unfolding leads_on
  leads_above h x f =
      let n : k ≤ next_member (set_at t (4 * k)) 0 = subst (λ x. k ≤ x) (e ∙ ap (λ S. next_member S 0) (part_row t (4 * k))) h in
      ap (λ y. ltb y 256) (f ∙ ap (λ S. next_member S (k + 1)) (part_row t (4 * k))) ∙ sym (rw (le-ltb _ _ n))

pub ruleset lead_laws = (leads_below, leads_above, rules)

-- a row that leads to nothing but itself adds nothing to a row that has it
through_alone : (n k : ℕ) (K R : Set) → Canon n R → ((q : ℕ) → has q K ≡ true → q ≡ k) → through n k K R ≡ R
unfolding through
through_alone n k K R c h =
    ⊎_elim
    (λ (t : has k R ≡ true).
    rw t (pick_ext 0 n _ _ (λ q l. true_same (has q R || has q K) (has q R) (λ o. ⊎_elim (λ x. x) (λ x. ap (λ y. has y R) (h q x) ∙ t) (or_cases (has q R) (has q K) o)) (λ x. or_left _ _ x)) ∙ c))
    (λ (t : has k R ≡ false). rw t)
    (test (has k R))

map_same : (f : Set → Set) (n : ℕ) (g : ℕ → Set) → ((j : ℕ) → j < n → f (g j) ≡ g j) → map f (tabulate n g) ≡ tabulate n g
map_same f n g h = map_tabulate f n g ∙ tabulate_ext n _ _ h

pub closed_none : (t : List ℕ) (n : ℕ) → RowsBelow t n → ClosedTo t t n 0
unfolding closed
closed_none t n s = record { rows = refl; below = s }

-- one round more
module _ (n : ℕ) (small : n ≤ 256) (t₀ t : List ℕ) (k : ℕ) (s : ClosedTo t₀ t n k) (l : k < n) (long : 4 * n ≤ length t₀) (same : length t ≡ length t₀) where
  at_k : get_or (closed n k (entries t₀ n)) k [] ≡ row t k
  at_k = ap (λ R. get_or R k []) (sym s.rows) ∙ entry_at t n k l

  pub closed_round : (u : List ℕ) → u ≡ visit_rows t k n → ClosedTo t₀ u n (k + 1)
  unfolding closed entries
  closed_round u e =
      let r = (visits_rows n k small l t (omega arith) s.below.row n (omega arith)).0 in
      let q : (j : ℕ) → j < n → row u j ≡ through n k (row t k) (row t j) = λ j h. ap (λ x. row x j) e ∙ r j h in
      rw add-one
      record {
        rows = tabulate_ext n _ (λ j. through n k (row t k) (row t j)) q ∙ sym (map_tabulate (through n k (row t k)) n (row t)) ∙ ap₂ (λ K R. map (through n k K) R) (sym at_k) s.rows;
        below = record { row = λ j h. subst (Canon n) (sym (q j h)) (through_canon n k (row t k) (row t j) (s.below.row j h)) };
      }

  pub closed_skip : (b : Bool) → b ≡ leads_on k (set_at t (4 * k)) → b ≡ false → ClosedTo t₀ t n (k + 1)
  unfolding closed entries
  closed_skip b e f =
      let alone = leads_nowhere k (row t k) (at_canon t (4 * k)) (sym e ∙ f) in
      rw add-one
      record {
        rows = s.rows ∙ sym (ap (λ K. map (through n k K) (closed n k (entries t₀ n))) at_k ∙ ap (map (through n k (row t k))) (sym s.rows) ∙ map_same _ n (row t) (λ j h. through_alone n k (row t k) (row t j) (s.below.row j h) alone) ∙ s.rows);
        below = s.below;
      }

pub ruleset closure_laws = (closed_none, closed_round, closed_skip, rules)
