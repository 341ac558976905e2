-- Finding the pairs: the laws by which the queue's loop is proved.
use Prim.Native.Nat.{ℕ, zero, suc, ◌+◌, ◌*◌, ◌/◌, ◌%◌, ◌≤◌, ◌<◌}
use mathlib.Core.List.Memᴰ
use mathlib.Core.List.{List, [], ◌∷◌}
use mathlib.Core.Logic.{⊎_elim}
use mathlib.Core.Path.{◌≡◌, sym, ◌∙◌, ap, ap₂, subst}
use native.Mathlib.Numerals.{add-one}
use native.Mathlib.Omega.{arith}
use borrow.Author.Rules.{rules}
use borrow.Author.Tests.{lt-ltb, le-ltb}
use lib.ListN.{get_or, length, take}
use Rattle.lists.specs.Lists.{◌∈◌}
use Rattle.lists.proofs.Members.{map_out}
use Rattle.automata.specs.Automaton.{Automaton, InBounds, leaving}
use Rattle.automata.specs.Records.{read_records, write_records}
use Rattle.automata.specs.WellFormed.{most_states}
use Rattle.automata.proofs.Records.{read_write}
use Rattle.search.specs.Search.{Graph, meet, add, index, table}
use Rattle.search.proofs.Tables.{meet_out}
use Rattle.search.proofs.Queue.{queue, queue_begin, queue_step, queue_end, queue_over, queue_capped}
use Rattle.sheets.specs.inner.Runs.{RunAt, IndexedSheet}
use Rattle.sheets.specs.Sheet.{state_count, read}
use Rattle.sheets.proofs.Meaning.{read_well}
use Rattle.sheets.proofs.Named.{ready_run}
use Rattle.product.proofs.Records.{ready_left, ready_right}
use Rattle.automata.specs.Pairs.{Pair, same_pair}
use Rattle.product.specs.Product.{Joint, joints_from, meeting_pairs}
use Rattle.product.specs.inner.Tables.{pair_of, table_of, capped, Queued, PairsMet, joint_targets, PairsBelow, found_in}
use Rattle.product.proofs.Joints.{from_out}
use Rattle.product.proofs.Queueing.{length_table, entry_at, entry_in, queued_room}
use Rattle.product.proofs.Result.{start_pair}

-- the pair at i
module _ (a aruns b bruns : List ℕ) (ra : IndexedSheet a aruns) (rb : IndexedSheet b bruns) (words t : List ℕ) (n i : ℕ) (k : Queued words t n) (h : i < n)
    (w : PairsBelow (state_count a) (state_count b) (table_of words n)) where
  inside : ((pair_of (get_or words i 0)).left < state_count a) × ((pair_of (get_or words i 0)).right < state_count b)
  inside = w.states (pair_of (get_or words i 0)) (entry_in words n i (queued_room words t n k) h)

  pub visit_left : RunAt a aruns (get_or words i 0 / 256)
  visit_left = ready_run a aruns ra (get_or words i 0 / 256) inside.0

  pub visit_right : RunAt b bruns (get_or words i 0 % 256)
  visit_right = ready_run b bruns rb (get_or words i 0 % 256) inside.1

pub visit_met : (a b : List ℕ) (c : ℕ) (first second : List ℕ) → first ≡ write_records (leaving (read a) (c / 256)) → second ≡ write_records (leaving (read b) (c % 256))
    → (T : List Pair) (words t : List ℕ) (m : ℕ) → PairsMet T (joint_targets (read_records first) (read_records second)) words t m
    → PairsMet T ((meeting_pairs (read a) (read b)).next (pair_of c)) words t m
unfolding meeting_pairs joint_targets joints_from
visit_met a b c first second e f T words t m r =
    subst (λ (ps : List Pair). PairsMet T ps words t m)
    (ap₂ (λ x y. joint_targets x y) (ap read_records e ∙ read_write (leaving (read a) (c / 256))) (ap read_records f ∙ read_write (leaving (read b) (c % 256)))) r

pub ruleset visit_laws = (visit_left, visit_right, ready_left, ready_right, visit_met, rules)

take_out : {X : Type 0} (k : ℕ) (l : List X) (x : X) → x ∈ take k l → x ∈ l
take_out zero l x m = elim m [ ]
take_out (suc k) [] x m = elim m [ ]
take_out (suc k) (y ∷ l) x m = ⊎_elim (λ e. Memᴰ.head e) (λ n. Memᴰ.tail (take_out k l x n)) (Memᴰ.cases_cons m)

-- joints lead to states
next_within : (A B : Automaton) → InBounds A → InBounds B → (p q : Pair) → q ∈ (meeting_pairs A B).next p → (q.left < A.size) × (q.right < B.size)
unfolding meeting_pairs
next_within A B f g p q m =
    let r = map_out (λ (j : Joint). j.to) (joints_from A B p) q m in
    let o = from_out A B p r.0 r.1 in
    let first_is = ap (λ (x : Joint). x.span.first) o.of.is in
    let last_is = ap (λ (x : Joint). x.span.last) o.of.is in
    let k = o.meet r.0.span.first (omega arith) (omega (arith, first_is, last_is, o.of.meets)) in
    let to : q ≡ record { left = o.left.to; right = o.right.to } = r.2 ∙ ap (λ (x : Joint). x.to) o.of.is in
    rw to (f.tos o.left k.left, g.tos o.right k.right)

-- the pairs of two sheets: those before i are done
module _ (a aruns b bruns : List ℕ) (ra : IndexedSheet a aruns) (rb : IndexedSheet b bruns) where
  abbrev graph : Graph Pair
  graph = meeting_pairs (read a) (read b)

  pub start_left : (t : List ℕ) → 256 * state_count a ≤ length t → get_or a 1 0 < length t / 256
  start_left t l = omega (arith, ra.accepted.start)

  pub start_right : get_or b 1 0 < 256
  start_right = omega (arith, rb.accepted.start, rb.accepted.few_states)

  module _ (words₀ words t : List ℕ) (n : ℕ) (r : PairsMet (table_of words₀ 0) (record { left = get_or a 1 0; right = get_or b 1 0 } ∷ []) words t n) where
    first_table : table_of words n ≡ record { left = get_or a 1 0; right = get_or b 1 0 } ∷ []
    unfolding table_of capped meet add index
    first_table = r.table

    pub begin_queue : queue (meeting_pairs (read a) (read b)) most_states 0 (table_of words n) ≡ table (meeting_pairs (read a) (read b)) most_states
    unfolding meeting_pairs
    begin_queue = ap (queue graph most_states 0) first_table ∙ sym (queue_begin graph most_states)

    pub begin_within : PairsBelow (state_count a) (state_count b) (table_of words n)
    begin_within =
        record {
          states = λ p m.
              ⊎_elim (λ (e : p ≡ record { left = get_or a 1 0; right = get_or b 1 0 }). rw e (ra.accepted.start, rb.accepted.start)) (λ k. absurd (Memᴰ.not-nil k))
              (Memᴰ.cases_cons (rw first_table at m));
        }

  module _ (words t : List ℕ) (n i : ℕ) (k : Queued words t n) (w : PairsBelow (state_count a) (state_count b) (table_of words n))
      (q : queue (meeting_pairs (read a) (read b)) most_states i (table_of words n) ≡ table (meeting_pairs (read a) (read b)) most_states) where
    count : length (table_of words n) ≡ n
    count = length_table words n (queued_room words t n k)

    pub find_full : i ≤ 256 → 256 < n → found_in words n ≡ table (meeting_pairs (read a) (read b)) most_states
    unfolding found_in
    find_full l h = rw (lt-ltb 256 n h) (sym (queue_over graph most_states i (table_of words n) (omega arith) (omega (arith, count))) ∙ q)

    pub find_ended : i ≤ 256 → n ≤ i → found_in words n ≡ table (meeting_pairs (read a) (read b)) most_states
    unfolding found_in
    find_ended l h = rw (le-ltb 256 n (omega arith)) (sym (queue_end graph most_states i (table_of words n) l (omega (arith, count))) ∙ q)

    module _ (h : i < n) (words' t' : List ℕ) (m : ℕ) (r : PairsMet (table_of words n) ((meeting_pairs (read a) (read b)).next (pair_of (get_or words i 0))) words' t' m) where
      pub find_next : n ≤ 256 → queue (meeting_pairs (read a) (read b)) most_states (i + 1) (table_of words' m) ≡ table (meeting_pairs (read a) (read b)) most_states
      unfolding meeting_pairs capped
      find_next l =
          ap (λ j. queue graph most_states j (table_of words' m)) (add-one i)
          ∙ ap (queue graph most_states (suc i)) r.table
          ∙ queue_capped graph most_states (suc i) (meet same_pair (graph.next (pair_of (get_or words i 0))) (table_of words n)) (omega arith)
          ∙ ap (λ p. queue graph most_states (suc i) (meet same_pair (graph.next p) (table_of words n))) (sym (entry_at words n i (start_pair (read a) (read b)) (queued_room words t n k) h))
          ∙ sym (queue_step graph most_states i (table_of words n) (omega arith) (omega (arith, count)))
          ∙ q

      pub find_within : PairsBelow (state_count a) (state_count b) (table_of words' m)
      unfolding capped
      find_within =
          record {
            states = λ p m.
                ⊎_elim (w.states p) (next_within (read a) (read b) (read_well a ra.accepted).states (read_well b rb.accepted).states (pair_of (get_or words i 0)) p)
                (meet_out same_pair _ (table_of words n) p (take_out 257 _ p (rw r.table at m)));
          }

pub ruleset find_laws = (start_left, start_right, begin_queue, begin_within, find_full, find_ended, rules)
