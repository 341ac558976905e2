-- The laws by which the spans of a long set are visited.
use Rattle.std.proofs.Common.{◌≡◌, ℕ, ◌+◌, ◌*◌, ◌<◌, ◌≤◌, Bool, true, false, cond, ◌&&◌, eqb, ltb, List, [], ◌∷◌, get_or, replicate, sym, refl, ap, ◌∙◌, subst, ⊎_elim, arith, rules, ltb-true, le-ltb, lt-ltb, eq-eqb, ne_eqb, eqb-true}
use Rattle.lists.specs.Index.{index, same}
use Rattle.stores.specs.Written.{Written}
use Rattle.lists.proofs.Index.{same_decides, same_equal, index_at, index_in, index_lt}
use Rattle.lists.proofs.Tests.{test, and_parts}
use Rattle.automata.specs.Automaton.{Transition}
use Rattle.ranges.specs.Cuts.{next_cut}
use Rattle.ranges.proofs.Cuts.{next_gt}
use Rattle.sets.specs.Sets.{Set}
use Rattle.sets.specs.inner.BitSet.{set_at, entries}
use Rattle.sets.specs.inner.Words.{put_at}
use Rattle.sets.proofs.BitSet.{entry_at, length_entries}
use Rattle.sets.proofs.Tables.{In}
use Rattle.sweep.specs.inner.Passing.{Passing}
use Rattle.sweep.proofs.Turns.{passing_later}
use Rattle.determinize.specs.inner.Notes.{set_number, SetPlaced, SpanVisited}
use Rattle.determinize.specs.inner.Attempts.{SetNumbered}
use Rattle.determinize.proofs.Tables.{add_empty, add_in, add_known}
use Rattle.determinize.proofs.Queued.{row_at}
use Rattle.determinize.proofs.Visits.{visit_placed, visit_done}

-- `is_row`
pub row_past : (n j : ℕ) (b : Bool) → n ≤ j → false ≡ (ltb j n && b)
row_past n j b h = rw (le-ltb _ _ h)

pub row_same : (n j : ℕ) (b c : Bool) → j < n → c ≡ b → c ≡ (ltb j n && b)
row_same n j b c h e = e ∙ sym (rw (lt-ltb _ _ h))

pub ruleset is_row_laws = (row_past, row_same, rules)

-- a set that has a number below 256 is not empty
number_some : (R : Set) (T : List Set) → set_number R T < 256 → (R ≡ [] → ⊥) × (index same R T ≡ set_number R T)
unfolding set_number
number_some [] T h = absurd (omega arith)
number_some (q ∷ R) T h = (λ e. let z : ◌≡◌ {A = ℕ} 0 1 = cc in omega arith, refl)

-- `place_near`
pub near_known : (t set : List ℕ) (n j : ℕ) (b : Bool) → n < 256 → SetNumbered (entries t n) j → b ≡ (ltb j n && same (set_at set 0) (set_at t (4 * j)))
    → b ≡ true → SetPlaced (set_at set 0) (entries t n) t n j
near_known t set n j b few k e h =
    let p = and_parts (ltb j n) _ (sym e ∙ h) in
    let l : j < n = ltb-true _ _ p.0 in
    let f : get_or (entries t n) j [] ≡ set_at set 0 = entry_at t n j l ∙ sym (same_equal _ _ p.1) in
    let g : set_number (set_at set 0) (entries t n) ≡ j = ap (λ R. set_number R (entries t n)) (sym f) ∙ k.found (omega (arith, length_entries t n)) in
    let s = number_some (set_at set 0) (entries t n) (omega arith) in
    record { added = sym (add_known (set_at set 0) (entries t n) s.0 (omega (arith, s.1, length_entries t n))); named = sym g; few = omega arith }

pub numbered_none : (t : List ℕ) (n : ℕ) → n < 256 → SetNumbered (entries t n) 256
numbered_none t n h = record { found = λ l. absurd (omega (arith, length_entries t n)) }

numbered_placed : (R : Set) (T : List Set) (t : List ℕ) (n j : ℕ) → SetPlaced R T t n j → SetNumbered (entries t n) j
numbered_placed R T t n j p =
    record {
      found = λ l.
          let s = number_some R (entries t n) (omega (arith, p.named, p.few, length_entries t n)) in
          let i : index same R (entries t n) ≡ j = s.1 ∙ sym p.named in
          let g : get_or (entries t n) j [] ≡ R =
          ap (λ k. get_or (entries t n) k []) (sym i) ∙ index_at same same_decides [] R (entries t n) (index_in same same_decides R (entries t n) (omega arith)) in
          ap (λ S. set_number S (entries t n)) g ∙ sym p.named;
    }

-- the empty set changes nothing
pub numbered_next : (R : Set) (T : List Set) (t : List ℕ) (n j k m : ℕ) → SetPlaced R T t n j → SetNumbered T k → m ≡ cond (eqb j 256) k j → SetNumbered (entries t n) m
unfolding set_number
numbered_next R T t n j k m p h e =
    ⊎_elim (λ (c : eqb j 256 ≡ true). subst (SetNumbered (entries t n)) (sym (e ∙ rw c)) (empty R p (eqb-true j 256 c)))
    (λ (c : eqb j 256 ≡ false). subst (SetNumbered (entries t n)) (sym (e ∙ rw c)) (numbered_placed R T t n j p))
    (test (eqb j 256))
  where
    empty : (R : Set) → SetPlaced R T t n j → j ≡ 256 → SetNumbered (entries t n) k
    empty [] p z = subst (λ U. SetNumbered U k) (sym (p.added ∙ add_empty T)) h
    empty (q ∷ S) p z =
        ⊎_elim (λ (c : q ∷ S ≡ []). let y : ◌≡◌ {A = ℕ} 0 1 = cc in absurd (omega arith))
        (λ c. let l = index_lt same same_decides (q ∷ S) c in absurd (omega (arith, l, z, p.named, p.few, length_entries t n)))
        (subst (λ U. In U (q ∷ S)) (sym p.added) (add_in (q ∷ S) T))

-- `next_near`
pub near_kept : (k j : ℕ) → j ≡ 256 → k ≡ cond (eqb j 256) k j
near_kept k j h = sym (rw (eq-eqb j 256 h))

pub near_new : (k j : ℕ) → (j ≡ 256 → ⊥) → j ≡ cond (eqb j 256) k j
near_new k j h = sym (rw (ne_eqb j 256 h))

pub ruleset next_laws = (near_kept, near_new, rules)

-- `visit_swept`
pub visit_swept_done : (T : List Set) (tree next t r v : List ℕ) (m j first last k to : ℕ) → next ≡ put_at (replicate 4 0) 0 tree (4 * 1)
    → SetPlaced (set_at next 0) T t m to → Written r (5 * k) (j ∷ 1 ∷ first ∷ last ∷ to ∷ []) v (5 * k + 5)
    → SpanVisited (set_at tree 4) T j first last r k t v m
visit_swept_done T tree next t r v m j first last k to f p w = visit_done (set_at tree 4) T t r v m j first last k to (visit_placed (set_at tree 4) T t next m to (row_at next tree 1 f) p) w

-- `sweep_spans`: the set in the tree is what the span leads to
pub visited_root : (R S : Set) (T : List Set) (j first last : ℕ) (r : List ℕ) (k : ℕ) (t v : List ℕ) (m : ℕ) → R ≡ S
    → SpanVisited R T j first last r k t v m → SpanVisited S T j first last r k t v m
visited_root R S T j first last r k t v m e p = subst (λ Q. SpanVisited Q T j first last r k t v m) e p

pub passing_next : (s c opens ends : List ℕ) (S : Set) (i j a : ℕ) (r t : List ℕ) → Passing s c opens ends S i j a r t
    → (top x : ℕ) (es : List Transition) → a < top → x ≡ next_cut a top es → Passing s c opens ends S i j x r t
passing_next s c opens ends S i j a r t p top x es h e = passing_later s c opens ends S i j a r t p x (omega (arith, next_gt a top es h))
