-- The laws by which the closures are proved: the table's rows get their own numbers, then the targets of epsilons, then Warshall's rounds.
use Prim.Native.Nat.{ℕ, suc, ◌+◌, ◌-◌, ◌*◌, ◌/◌, ◌≤◌, ◌<◌}
use mathlib.Core.Bool.{true, false, ◌||◌}
use mathlib.Core.List.{List, [], ◌∷◌}
use mathlib.Core.Logic.{⊎_elim}
use mathlib.Core.Path.{◌≡◌, sym, ◌∙◌, ap, subst, subst⁻¹}
use native.Mathlib.Nat.{eq-or-lt_of_le}
use native.Mathlib.Omega.{arith}
use borrow.Author.Rules.{rules}
use borrow.Author.Tests.{eq-eqb, eqb-true, ne_eqb, eqb-false}
use lib.Dec.{eqb}
use lib.ListN.{length, get_or, take, drop, replicate, length-replicate}
use Rattle.lists.specs.Lists.{any}
use Rattle.lists.proofs.Lists.{any_out, tabulate_ext}
use Rattle.lists.proofs.Parts.{part_all}
use Rattle.lists.proofs.Tests.{test, true_same, and_parts}
use Rattle.automata.specs.Automaton.{Transition, InBounds}
use Rattle.automata.specs.Records.{read_records}
use Rattle.automata.specs.inner.Records.{record_at}
use Rattle.std.specs.Simd.{first_chunks}
use Rattle.automata.specs.inner.Chunks.{records_of}
use Rattle.automata.proofs.Chunks.{records_are, records_next, records_done}
use Rattle.sets.specs.Sets.{has}
use Rattle.sets.specs.inner.Members.{Canon}
use Rattle.sets.specs.inner.BitSet.{set_at, entries}
use Rattle.sets.specs.Closure.{closed}
use Rattle.sets.specs.inner.Words.{insert_at}
use Rattle.sets.specs.inner.Rows.{RowsBelow, ClosedTo}
use Rattle.sets.proofs.Sets.{has_pick, pick_ext, pick_canon, has_nil, wide}
use Rattle.sets.proofs.BitSet.{at_canon, fresh_at}
use Rattle.sets.proofs.Stores.{inserted, insert_other, length_insert}
use Rattle.sheets.specs.inner.Accepted.{Accepted}
use Rattle.sheets.specs.Sheet.{state_count, records_at, read}
use Rattle.sheets.proofs.Meaning.{read_well}
use Rattle.sheets.proofs.Named.{sheet_named}
use Rattle.words.specs.Simulation.{is_epsilon, epsilon_row, closures}
use Rattle.words.specs.inner.Gather.{with_all, RowsFor}
use Rattle.words.specs.inner.Epsilons.{Fresh, SelvesAdded, with_epsilons, EpsilonsAdded, EpsilonsLeft}
use Rattle.words.proofs.Gather.{all_none, all_cons, all_skip, all_one}
use Rattle.words.proofs.Rows.{sheet_rows}

eqb_comm : (a b : ℕ) → eqb a b ≡ eqb b a
eqb_comm a b = true_same _ _ (λ h. eq-eqb b a (sym (eqb-true a b h))) (λ h. eq-eqb a b (sym (eqb-true b a h)))

-- rows get their own numbers
pub selves_next : (t u v : List ℕ) (n m : ℕ) → SelvesAdded t u n → n < m → m ≤ 256 → length u ≡ length t → 4 * m ≤ length t → v ≡ insert_at u (4 * n) n → SelvesAdded t v (n + 1)
selves_next t u v n m s g h j k e =
    let l : n < 256 = omega arith in
    subst⁻¹ (λ (x : List ℕ). SelvesAdded t x (n + 1)) e (record {
      below = λ p h.
          ⊎_elim
          (λ (e : suc p ≡ suc n).
          let c : p ≡ n = omega arith in
          rw c (inserted u (4 * n) n (omega arith) l ∙ pick_ext 0 256 _ _ (λ q g. ap (λ S. has q S || eqb q n) (s.above n (omega arith)) ∙ ap (λ b. has q (set_at t (4 * n)) || b) (eqb_comm q n))))
          (λ (e : suc p < suc n). insert_other u n n p l (λ c. omega arith) ∙ s.below p (omega arith))
          (eq-or-lt_of_le (le_of h));
      above = λ p h. insert_other u n n p l (λ c. omega arith) ∙ s.above p (omega arith);
    })
  where
    le_of : {p : ℕ} → p < n + 1 → suc p ≤ suc n
    le_of h = omega arith

pub ruleset self_laws = (selves_next, length_insert, rules)

-- a record that the code tests
pub epsilon_not : (t r : List ℕ) → (get_or r 1 0 ≡ 0 → ⊥) → EpsilonsAdded t t (record_at r 0 ∷ [])
unfolding with_epsilons is_epsilon
epsilon_not t r h = record { row = λ p l. sym (all_skip (is_epsilon p) (set_at t (4 * p)) (record_at r 0) (at_canon t (4 * p)) (λ q. rw (ne_eqb (get_or r 1 0) 0 h))) }

pub epsilon_put : (t u r : List ℕ) → get_or r 1 0 ≡ 0 → 4 * get_or r 0 0 + 4 ≤ length t → get_or r 4 0 < 256 → u ≡ insert_at t (4 * get_or r 0 0) (get_or r 4 0) → EpsilonsAdded t u (record_at r 0 ∷ [])
unfolding with_epsilons is_epsilon
epsilon_put t u r k f g e =
    record {
      row = λ p h.
          ⊎_elim
          (λ (c : eqb (get_or r 0 0) p ≡ true).
          let q : get_or r 0 0 ≡ p = eqb-true _ _ c in
          ap (λ x. set_at x (4 * p)) (e ∙ ap (λ x. insert_at t (4 * x) (get_or r 4 0)) q) ∙ inserted t (4 * p) (get_or r 4 0) (omega arith) g
          ∙ pick_ext 0 256 _ _ (λ x i. ap (λ b. has x (set_at t (4 * p)) || b) (eqb_comm x (get_or r 4 0) ∙ rw (eq-eqb (get_or r 1 0) 0 k, c)))
          ∙ sym (all_one (is_epsilon p) (set_at t (4 * p)) (record_at r 0)))
          (λ (c : eqb (get_or r 0 0) p ≡ false).
          ap (λ x. set_at x (4 * p)) e ∙ insert_other t (get_or r 0 0) (get_or r 4 0) p g (λ z. eqb-false _ _ c (sym z))
          ∙ sym (all_skip (is_epsilon p) (set_at t (4 * p)) (record_at r 0) (at_canon t (4 * p)) (λ q. rw (eq-eqb (get_or r 1 0) 0 k, c))))
          (test (eqb (get_or r 0 0) p));
    }

pub ruleset epsilon_laws = (epsilon_not, epsilon_put, length_insert, rules)

-- the records from an index on
pub epsilons_begin : (t run : List ℕ) (rs : List (List ℕ)) → rs ≡ first_chunks 5 (length run / 5) run → EpsilonsLeft t (read_records run) t (records_of (drop 0 rs))
epsilons_begin t run rs q = record { row = λ p l. ap (with_epsilons t p) (records_are run rs q) }

module _ (es : List Transition) (t u : List ℕ) (rs : List (List ℕ)) (i : ℕ) (s : EpsilonsLeft t es u (records_of (drop i rs))) where
  pub epsilons_next : (v : List ℕ) → i < length rs → EpsilonsAdded u v (record_at (get_or rs i []) 0 ∷ []) → EpsilonsLeft t es v (records_of (drop (i + 1) rs))
  unfolding with_epsilons
  epsilons_next v h e =
      record {
        row = λ p l.
            ap (λ S. with_all S (is_epsilon p) (records_of (drop (i + 1) rs))) (e.row p l)
            ∙ sym (all_cons (is_epsilon p) (set_at u (4 * p)) (record_at (get_or rs i []) 0) (records_of (drop (i + 1) rs)))
            ∙ ap (with_all (set_at u (4 * p)) (is_epsilon p)) (sym (records_next rs i h)) ∙ s.row p l;
      }

  pub epsilons_end : length rs ≤ i → EpsilonsAdded t u es
  unfolding with_epsilons
  epsilons_end h =
      record { row = λ p l. sym (all_none (is_epsilon p) (set_at u (4 * p)) (at_canon u (4 * p))) ∙ ap (with_all (set_at u (4 * p)) (is_epsilon p)) (sym (records_done rs i h)) ∙ s.row p l }

-- a table of zeros that is long enough; one for 256 states, and one where there are at most 32
pub fresh_zeros : (s : List ℕ) (n : ℕ) → 4 * state_count s ≤ n → Fresh (state_count s) (replicate n 0)
fresh_zeros s n h = record { long = omega (arith, length-replicate {A = ℕ} n 0); empty = fresh_at n }

pub fresh_large : (s : List ℕ) → Accepted s → Fresh (state_count s) (replicate 1024 0)
fresh_large s a = fresh_zeros s 1024 (omega (arith, a.few_states))

pub fresh_small : (s : List ℕ) → state_count s ≤ 32 → Fresh (state_count s) (replicate 128 0)
fresh_small s h = fresh_zeros s 128 (omega arith)

-- the table of an accepted sheet
module _ (s : List ℕ) (a : Accepted s) where
  records : List Transition
  records = read_records (take (length s - records_at s) (drop (records_at s) s))

  same_records : records ≡ (read s).transitions
  unfolding records
  same_records = ap read_records (part_all (records_at s) s)

  ok : InBounds (read s)
  ok = (read_well s a).states

  -- nothing outside the states is named
  outside : (p q : ℕ) → p < state_count s → state_count s ≤ q → (eqb p q || any (is_epsilon p q) (read s).transitions) ≡ false
  unfolding is_epsilon
  outside p q l h =
      rw (ne_eqb p q (λ e. omega arith))
      (⊎_elim
      (λ t.
      let x = any_out _ _ t in
      let i = ok.tos x.0 x.1 in
      let b : x.0.to ≡ q = eqb-true _ _ (and_parts (eqb x.0.from p) _ (and_parts (eqb x.0.kind 0) _ x.2).1).1 in
      absurd (omega arith))
      (λ t. t)
      (test (any (is_epsilon p q) (read s).transitions)))

  -- each state that is named has a row in a table as long as z
  pub closures_rows : (z t : List ℕ) → Fresh (state_count s) z → length t ≡ length z → RowsFor (length t) (read_records (take (length s - records_at s) (drop (records_at s) s)))
  closures_rows z t e l = sheet_rows s a (length t) (omega (arith, e.long))

  row_canon : (p : ℕ) → Canon (state_count s) (epsilon_row (read s) p)
  unfolding epsilon_row
  row_canon p = pick_canon (state_count s) _

  module _ (z t u : List ℕ) (e : Fresh (state_count s) z) (f : SelvesAdded z t (state_count s)) (g : EpsilonsAdded t u (read_records (take (length s - records_at s) (drop (records_at s) s)))) where
    row : (p : ℕ) → p < state_count s → set_at u (4 * p) ≡ epsilon_row (read s) p
    unfolding with_epsilons with_all epsilon_row records
    row p l =
        let few = a.few_states in
        let ts : List Transition = (read s).transitions in
        g.row p (omega arith)
        ∙ pick_ext 0 256 _ _
        (λ q h.
        ap (λ b. b || any (is_epsilon p q) records)
        (ap (has q) (f.below p l) ∙ has_pick 256 _ q (omega arith) ∙ ap (λ b. b || eqb p q) (ap (has q) (e.empty (4 * p)) ∙ has_nil q))
        ∙ ap (λ es. eqb p q || any (is_epsilon p q) es) same_records)
        ∙ wide 0 (state_count s) 256 _ few (λ q h. outside p q l (omega arith))

    pub closures_below : RowsBelow u (state_count s)
    closures_below = record { row = λ j l. subst (Canon (state_count s)) (sym (row j l)) (row_canon j) }

    pub closures_done : (v : List ℕ) → ClosedTo u v (state_count s) (state_count s) → entries v (state_count s) ≡ closures (read s)
    unfolding closures entries
    closures_done v k = k.rows ∙ ap (closed (state_count s) (state_count s)) (tabulate_ext (state_count s) _ _ row)

pub ruleset closure_laws = (sheet_named, closures_rows, closures_below, closures_done, rules)
