-- The entries of the table, one after the other: the table and the notes after each, and the finished table.
use Rattle.std.proofs.Common.{◌≡◌, ℕ, ◌+◌, ◌*◌, ◌<◌, ◌≤◌, Option, Some, None, Result, List, [], ◌∷◌, ◌++◌, length, get_or, drop, replicate, sym, ap, ◌∙◌, subst, append_assoc, append-nil, arith, length-append, rules}
use mathlib.Core.List.Memᴰ
use lib.ListN.{get_or-append}
use Rattle.lists.specs.Lists.{tabulate}
use Rattle.stores.specs.Written.{Written}
use Rattle.stores.proofs.Written.{written_append}
use Rattle.automata.specs.Automaton.{Automaton}
use Rattle.automata.specs.Records.{write_records}
use Rattle.automata.proofs.Records.{write_append}
use Rattle.sets.specs.Sets.{Set}
use Rattle.sets.specs.inner.Members.{Canon}
use Rattle.sets.specs.inner.BitSet.{set_at, entries}
use Rattle.sets.specs.inner.Words.{put_at}
use Rattle.sets.proofs.BitSet.{entry_at, length_entries}
use Rattle.sets.proofs.Stores.{put_same}
use Rattle.sheets.specs.Sheet.{state_count, read}
use Rattle.words.specs.Simulation.{start_set}
use Rattle.words.specs.inner.Gather.{Tables}
use Rattle.words.proofs.Answers.{start_canon}
use Rattle.lists.proofs.Members.{at_in}
use Rattle.determinize.specs.declared.exploring.SetCounts.{SetCounts}
use Rattle.determinize.specs.Determinize.{set_targets, set_table, sets_and_sink}
use Rattle.determinize.specs.declared.Unfinished.{Unfinished}
use Rattle.determinize.specs.inner.Attempts.{SpansExploration}
use Rattle.determinize.specs.inner.Notes.{notes_of, notes_from, sink_notes, Canonical, SpansVisited, SpansResult, TableResult}
use Rattle.determinize.proofs.Tables.{meet_extends}
use Rattle.determinize.proofs.Visits.{first_row}
use Rattle.determinize.proofs.Laws.{queue_begins, queue_next, queue_ended, queue_full, queue}
use Rattle.stores.proofs.Left.{Left, left_start, left_done, left_next}
use Rattle.determinize.proofs.Notes.{notes_states, notes_at, notes_past}

-- a row of the table, copied into a set of zeros
module _ (set t : List ℕ) (i : ℕ) (e : set ≡ put_at (replicate 4 0) 0 t (4 * i)) where
  pub row_at : set_at set 0 ≡ set_at t (4 * i)
  row_at = ap (λ x. set_at x 0) e ∙ put_same (replicate 4 0) 0 t (4 * i) (omega arith)

  module _ (n : ℕ) (h : i < n) where
    row_set : set_at set 0 ≡ get_or (entries t n) i []
    row_set = row_at ∙ sym (entry_at t n i h)

    pub row_canon : (m : ℕ) → Canonical m (entries t n) → Canon m (set_at set 0)
    row_canon m c = subst (Canon m) (sym row_set) (c.each _ (at_in (entries t n) i [] (omega (arith, length_entries t n))))

    pub row_visited : (lower upper : ℕ) (A : Automaton) (j : ℕ) (before : List ℕ) (k : ℕ) (t' after : List ℕ) (x : Option SetCounts)
        → SpansResult lower upper A (set_at set 0) (entries t n) j before k t' after x
        → SpansResult lower upper A (get_or (entries t n) i []) (entries t n) j before k t' after x
    row_visited lower upper A j before k t' after x p = subst (λ S. SpansResult lower upper A S (entries t n) j before k t' after x) row_set p

    pub row_tried : (lower upper : ℕ) (A : Automaton) (j : ℕ) (before : List ℕ) (k : ℕ) (u t' after : List ℕ) (x : Result (Option SetCounts) Unfinished)
        → SpansExploration lower upper A (set_at set 0) (entries t n) j before k u t' after x
        → SpansExploration lower upper A (get_or (entries t n) i []) (entries t n) j before k u t' after x
    row_tried lower upper A j before k u t' after x p = subst (λ S. SpansExploration lower upper A S (entries t n) j before k u t' after x) row_set p

pub ruleset row_laws = (row_canon, row_visited, row_tried, rules)

-- i entries of the table are taken: t has n sets, r has k notes
pub record QueueInvariant (lower upper : ℕ) (A : Automaton) (before t r : List ℕ) (n k i : ℕ) : Type 0 where
  pub queued : queue lower upper A i (entries t n) ≡ set_table lower upper A
  pub noted : (more : List Set)
      → Left before 0 (write_records (notes_from lower upper A (entries t n ++ more) 0 (entries t n ++ more))) r (5 * k)
      (write_records (notes_from lower upper A (entries t n ++ more) i (drop i (entries t n ++ more))))

module _ (lower upper : ℕ) (A : Automaton) (before : List ℕ) where
  pub explore_begins : (t : List ℕ) → set_at t 0 ≡ start_set A → QueueInvariant lower upper A before t before 1 0 0
  unfolding entries tabulate
  explore_begins t e =
      record {
        queued = ap (λ S. queue lower upper A 0 (S ∷ [])) e ∙ queue_begins lower upper A;
        noted = λ more. left_start before 0 _;
      }

  module _ (t r : List ℕ) (n k i : ℕ) (q : QueueInvariant lower upper A before t r n k i) (b : i < 256) where
    module _ (h : i < n) (t' r' : List ℕ) (x : Option SetCounts) (p : SpansResult lower upper A (get_or (entries t n) i []) (entries t n) i r k t' r' x) where
      in_table : i < length (entries t n)
      in_table = omega (arith, length_entries t n)

      pub explore_over : x ≡ None → TableResult lower upper A before t' r' None
      unfolding SpansResult TableResult
      explore_over e = queue_full lower upper A i (entries t n) b q.queued in_table (subst (SpansResult lower upper A (get_or (entries t n) i []) (entries t n) i r k t' r') e p)

      module _ (y : SetCounts) (e : x ≡ Some y) where
        visited : SpansVisited lower upper A (get_or (entries t n) i []) (entries t n) i r k t' r' y.sets y.notes
        unfolding SpansResult
        visited = subst (SpansResult lower upper A (get_or (entries t n) i []) (entries t n) i r k t' r') e p

        pub explore_few : y.sets < 256
        explore_few = visited.few

        pub explore_canonical : Canonical A.size (entries t' y.sets)
        explore_canonical = visited.canonical

        pub explore_bounded : k ≤ 4294967296 * i → y.notes ≤ 4294967296 * (i + 1)
        explore_bounded g = let d = visited.bounded in omega arith

        noted_more : (more : List Set)
            → Left before 0 (write_records (notes_from lower upper A (entries t' y.sets ++ more) 0 (entries t' y.sets ++ more))) r' (5 * y.notes)
            (write_records (notes_from lower upper A (entries t' y.sets ++ more) (i + 1) (drop (i + 1) (entries t' y.sets ++ more))))
        noted_more more =
            let T = entries t n in
            let F = entries t' y.sets ++ more in
            let S = get_or T i [] in
            let w = meet_extends (set_targets lower upper A S) T in
            let f : T ++ (w.rest ++ more) ≡ F = sym (append_assoc T w.rest more) ∙ ap (λ l. l ++ more) (sym (visited.met ∙ w.is)) in
            let g : Left before 0 (write_records (notes_from lower upper A F 0 F)) r (5 * k) (write_records (notes_from lower upper A F i (drop i F))) =
            subst (λ G. Left before 0 (write_records (notes_from lower upper A G 0 G)) r (5 * k) (write_records (notes_from lower upper A G i (drop i G)))) f (q.noted (w.rest ++ more)) in
            let z : get_or F i [] ≡ S = ap (λ G. get_or G i []) (sym f) ∙ get_or-append T (w.rest ++ more) [] i in_table in
            let v : i < length F = subst (λ G. i < length G) f (rw length-append (omega (arith, in_table))) in
            let s : write_records (notes_from lower upper A F i (drop i F)) ≡ write_records (notes_of lower upper A F i S) ++ write_records (notes_from lower upper A F (i + 1) (drop (i + 1) F)) =
            ap write_records (notes_at lower upper A F i v ∙ ap (λ R. notes_of lower upper A F i R ++ notes_from lower upper A F (i + 1) (drop (i + 1) F)) z)
            ∙ write_append (notes_of lower upper A F i S) (notes_from lower upper A F (i + 1) (drop (i + 1) F)) in
            left_next _ _ _ _ _ _ g (write_records (notes_of lower upper A F i S)) _ s r' (5 * y.notes) (visited.noted more)

        -- the first row is as it was
        pub explore_start : set_at t 0 ≡ start_set A → set_at t' 0 ≡ start_set A
        explore_start e =
            let w = meet_extends (set_targets lower upper A (get_or (entries t n) i [])) (entries t n) in
            (first_row t t' n y.sets w.rest (omega arith) (visited.met ∙ w.is)).1 ∙ e

        pub explore_next : QueueInvariant lower upper A before t' r' y.sets y.notes (i + 1)
        explore_next =
            record { queued = queue_next lower upper A i (entries t n) b q.queued in_table (entries t' y.sets) visited.met; noted = noted_more }

    -- the table is finished, and the sink is noted
    pub explore_ended : n ≤ i → n < 256 → Canonical A.size (entries t n) → (r' : List ℕ) (m : ℕ) → Written r (5 * k) (write_records (sink_notes lower upper n)) r' (5 * m)
        → TableResult lower upper A before t r' (Some (record { sets = n; notes = m }))
    unfolding TableResult write_records
    explore_ended h f c r' m w =
        let T = entries t n in
        let g : Left before 0 (write_records (notes_from lower upper A T 0 T)) r (5 * k) (write_records (notes_from lower upper A T i (drop i T))) =
        subst (λ G. Left before 0 (write_records (notes_from lower upper A G 0 G)) r (5 * k) (write_records (notes_from lower upper A G i (drop i G)))) (append-nil T) (q.noted []) in
        let v : Written before 0 (write_records (notes_from lower upper A T 0 T)) r (5 * k) =
        left_done _ _ _ _ _ _ g (ap write_records (notes_past lower upper A T i (omega (arith, length_entries t n)))) in
        let s : write_records (notes_from lower upper A T 0 T) ++ write_records (sink_notes lower upper n) ≡ write_records (notes_from lower upper A T 0 (sets_and_sink T)) =
        sym (write_append (notes_from lower upper A T 0 T) (sink_notes lower upper n))
        ∙ ap write_records (ap (λ j. notes_from lower upper A T 0 T ++ sink_notes lower upper j) (sym (length_entries t n)) ∙ sym (notes_states lower upper A T)) in
        record {
          whole = queue_ended lower upper A i T b q.queued (omega (arith, length_entries t n));
          few = f;
          canonical = c;
          noted = subst (λ ws. Written before 0 ws r' (5 * m)) s (written_append before r r' _ _ 0 (5 * k) (5 * m) v w);
        }

pub start_canonical : (s starts c t : List ℕ) → Tables s starts c → set_at t 0 ≡ start_set (read s) → Canonical (state_count s) (entries t 1)
unfolding entries tabulate
start_canonical s starts c t x e =
    record {
      each = λ S m. subst (Canon (state_count s)) (sym (Memᴰ.eq_of_singleton m)) (start_canon s starts c t x e);
    }
