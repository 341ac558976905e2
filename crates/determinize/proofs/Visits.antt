-- The spans of a state, one after the other: the table and the notes after each.
use Rattle.std.proofs.Common.{◌≡◌, ℕ, ◌+◌, ◌-◌, ◌*◌, ◌<◌, ◌≤◌, Some, None, List, [], ◌∷◌, ◌++◌, length, get_or, sym, refl, ap, ◌∙◌, subst, ⊎_elim, append_assoc, arith, length-append, rules}
use mathlib.Core.List.Memᴰ
use lib.ListN.{get_or-append}
use Rattle.stores.specs.Written.{Written}
use Rattle.automata.specs.Automaton.{Automaton}
use Rattle.automata.specs.Records.{write_records}
use Rattle.sets.specs.Sets.{Set}
use Rattle.sets.specs.inner.Members.{Canon}
use Rattle.sets.specs.inner.BitSet.{set_at, entries}
use Rattle.sets.proofs.BitSet.{entry_at, length_entries}
use Rattle.sets.proofs.Tables.{In}
use Rattle.sheets.specs.inner.Accepted.{Accepted}
use Rattle.sheets.specs.Sheet.{state_count, read}
use Rattle.sheets.proofs.Meaning.{read_well}
use Rattle.words.specs.Simulation.{outgoing, step}
use Rattle.words.proofs.Stepping.{step_canon}
use Rattle.ranges.specs.Cuts.{next_cut}
use Rattle.determinize.specs.Determinize.{set_targets}
use Rattle.determinize.specs.inner.Notes.{set_number, notes_of, Canonical, SetPlaced, SpanVisited, SpansResult, add_set, meet_sets}
use Rattle.determinize.proofs.Tables.{add_extends, add_in, meet_out}
use Rattle.determinize.proofs.Targets.{span_targets}
use Rattle.determinize.proofs.Laws.{meet_begins, meet_next, meet_ended, meet_full}
use Rattle.stores.proofs.Left.{Left, left_start, left_done, left_next}
use Rattle.determinize.proofs.Placing.{cut_some, cut_fits}
use Rattle.determinize.proofs.Notes.{number_later, notes_step, notes_end}

-- the set that a span leads to has its place
pub visit_placed : (R : Set) (T : List Set) (t u : List ℕ) (m to : ℕ) → set_at u 0 ≡ R → SetPlaced (set_at u 0) T t m to → SetPlaced R T t m to
visit_placed R T t u m to e p = subst (λ S. SetPlaced S T t m to) e p

-- a span is visited
pub visit_done : (R : Set) (T : List Set) (t r v : List ℕ) (m j first last k to : ℕ) → SetPlaced R T t m to
    → Written r (5 * k) (j ∷ 1 ∷ first ∷ last ∷ to ∷ []) v (5 * k + 5) → SpanVisited R T j first last r k t v m
visit_done R T t r v m j first last k to p w =
    record { added = p.added; few = p.few; noted = subst (λ x. Written r (5 * k) (j ∷ 1 ∷ first ∷ last ∷ x ∷ []) v (5 * k + 5)) p.named w }

pub ruleset visit_laws = (visit_done, cut_some, cut_fits, rules)

-- the sets of the table have states below n
canonical_add : (n : ℕ) (R : Set) (T : List Set) → Canonical n T → Canon n R → Canonical n (add_set R T)
unfolding add_set
canonical_add n R T c d = record {
  each = λ S m. ⊎_elim (c.each S) (λ k. subst (Canon n) (sym (Memᴰ.eq_of_singleton k)) d) (meet_out (R ∷ []) T S m);
}

-- the spans of the state j, which is the set S, are visited up to a: t has n sets, r has k notes
pub record SpansInvariant (lower upper : ℕ) (A : Automaton) (S : Set) (T : List Set) (j : ℕ) (before : List ℕ) (count : ℕ) (t r : List ℕ) (n k a : ℕ) : Type 0 where
  pub met : meet_sets (span_targets a upper A S) (entries t n) ≡ meet_sets (set_targets lower upper A S) T
  pub noted : (more : List Set) → Left before (5 * count) (write_records (notes_of lower upper A (entries t n ++ more) j S)) r (5 * k) (write_records (notes_of a upper A (entries t n ++ more) j S))

module _ (lower upper : ℕ) (A : Automaton) (S : Set) (j : ℕ) (before : List ℕ) (count : ℕ) where
  pub visit_begins : (t : List ℕ) (n : ℕ) → SpansInvariant lower upper A S (entries t n) j before count t before n count lower
  visit_begins t n =
      record { met = meet_begins lower upper A S (entries t n); noted = λ more. left_start before (5 * count) _ }

  module _ (T : List Set) (t r : List ℕ) (n k a : ℕ) (i : SpansInvariant lower upper A S T j before count t r n k a) where
    module _ (h : a < upper + 1) (c : ℕ) (e : c ≡ next_cut a (upper + 1) (outgoing A S)) (t' r' : List ℕ) (n' : ℕ) (v : SpanVisited (step A S a) (entries t n) j a (c - 1) r k t' r' n') where
      met_next : meet_sets (span_targets c upper A S) (entries t' n') ≡ meet_sets (set_targets lower upper A S) T
      met_next = meet_next lower upper A S T a (entries t n) i.met h (step A S a) (entries t' n') c refl v.added e

      noted_next : (more : List Set)
          → Left before (5 * count) (write_records (notes_of lower upper A (entries t' n' ++ more) j S)) r' (5 * (k + 1)) (write_records (notes_of c upper A (entries t' n' ++ more) j S))
      unfolding write_records
      noted_next more =
          let R = step A S a in
          let U = entries t' n' in
          let F = U ++ more in
          let x = add_extends R (entries t n) in
          let f : entries t n ++ (x.rest ++ more) ≡ F = sym (append_assoc (entries t n) x.rest more) ∙ ap (λ l. l ++ more) (sym (v.added ∙ x.is)) in
          let p : Left before (5 * count) (write_records (notes_of lower upper A F j S)) r (5 * k) (write_records (notes_of a upper A F j S)) =
          subst (λ G. Left before (5 * count) (write_records (notes_of lower upper A G j S)) r (5 * k) (write_records (notes_of a upper A G j S))) f (i.noted (x.rest ++ more)) in
          let y : set_number R U ≡ set_number R F = sym (number_later R U more (subst (λ G. In G R) (sym v.added) (add_in R (entries t n)))) in
          let s : write_records (notes_of a upper A F j S) ≡ j ∷ 1 ∷ a ∷ (c - 1) ∷ set_number R U ∷ write_records (notes_of c upper A F j S) =
          ap write_records (notes_step upper A F j S a h)
          ∙ ap (λ d. j ∷ 1 ∷ a ∷ (d - 1) ∷ set_number R F ∷ write_records (notes_of d upper A F j S)) (sym e)
          ∙ ap (λ z. j ∷ 1 ∷ a ∷ (c - 1) ∷ z ∷ write_records (notes_of c upper A F j S)) (sym y) in
          let q = left_next _ _ _ _ _ _ p (j ∷ 1 ∷ a ∷ (c - 1) ∷ set_number R U ∷ []) (write_records (notes_of c upper A F j S)) s r' (5 * k + 5) v.noted in
          let z : 5 * k + 5 ≡ 5 * (k + 1) = omega arith in
          rw z at q

      pub visit_next : SpansInvariant lower upper A S T j before count t' r' n' (k + 1) c
      visit_next = record { met = met_next; noted = noted_next }

      -- a table with 256 sets is too many
      pub visit_over : n' ≡ 256 → SpansResult lower upper A S T j before count t' r' None
      unfolding SpansResult
      visit_over g = meet_full lower upper A S T c (entries t' n') met_next (omega (arith, length_entries t' n'))

    pub visit_ended : upper + 1 ≤ a → n < 256 → Canonical A.size (entries t n) → k + lower ≤ count + a → a ≤ 4294967296 → SpansResult lower upper A S T j before count t r (Some (record { sets = n; notes = k }))
    unfolding SpansResult write_records
    visit_ended h f c b d =
        record {
          met = meet_ended lower upper A S T a (entries t n) i.met h;
          few = f;
          canonical = c;
          noted = λ more.
              left_done _ _ _ _ _ _ (i.noted more) (ap write_records (notes_end upper A (entries t n ++ more) j S a h));
          bounded = omega arith;
        }

-- a step leads to a set of states
pub canonical_next : (s : List ℕ) → Accepted s → (S : Set) (T : List Set) (a j last k n : ℕ) (r t r' : List ℕ) → Canonical (state_count s) T → SpanVisited (step (read s) S a) T j a last r k t r' n
    → Canonical (state_count s) (entries t n)
canonical_next s x S T a j last k n r t r' d v =
    subst (Canonical (state_count s)) (sym v.added) (canonical_add (state_count s) (step (read s) S a) T d (step_canon (read s) (read_well s x).states a S))

-- the first row of a table that has grown
pub first_row : (t t' : List ℕ) (n n' : ℕ) (more : List Set) → 0 < n → entries t' n' ≡ entries t n ++ more → (0 < n') × (set_at t' 0 ≡ set_at t 0)
first_row t t' n n' more h f =
    let l : 0 < n' = omega (arith, length_entries t' n', ap length f, length-append (entries t n) more, length_entries t n) in
    (l, sym (entry_at t' n' 0 l) ∙ ap (λ T. get_or T 0 []) f ∙ get_or-append (entries t n) more [] 0 (omega (arith, length_entries t n)) ∙ entry_at t n 0 h)

module _ (R : Set) (t : List ℕ) (n j first last : ℕ) (r : List ℕ) (k : ℕ) (t' r' : List ℕ) (n' : ℕ) (v : SpanVisited R (entries t n) j first last r k t' r' n') (h : 0 < n) where
  pub first_some : 0 < n'
  first_some = let x = add_extends R (entries t n) in (first_row t t' n n' x.rest h (v.added ∙ x.is)).0

  pub first_kept : (u : List ℕ) → set_at t 0 ≡ set_at u 0 → set_at t' 0 ≡ set_at u 0
  first_kept u e = let x = add_extends R (entries t n) in (first_row t t' n n' x.rest h (v.added ∙ x.is)).1 ∙ e
