-- The laws by which code makes the table: entry by entry and span by span.
use Rattle.std.proofs.Common.{◌≡◌, ℕ, suc, ◌+◌, ◌-◌, ◌<◌, ◌≤◌, List, [], ◌∷◌, length, get_or, sym, ap, ◌∙◌, add-one, arith}
use Rattle.lists.proofs.Members.{at_default}
use Rattle.automata.specs.Automaton.{Automaton}
use Rattle.automata.specs.WellFormed.{most_states}
use Rattle.search.specs.Search
use Rattle.search.specs.Search.{SearchResult, over, found}
use Rattle.search.proofs.Queue
use Rattle.search.proofs.Tables.{extends_length}
use Rattle.lists.specs.Index.{same}
use Rattle.sets.specs.Sets.{Set}
use Rattle.words.specs.Simulation.{outgoing, step, start_set}
use Rattle.ranges.specs.Cuts.{next_cut}
use Rattle.determinize.specs.Determinize.{set_targets, nonempty_of, subsets, set_table}
use Rattle.determinize.specs.inner.Notes.{add_set, meet_sets}
use Rattle.determinize.proofs.Tables.{meet_extends}
use Rattle.determinize.proofs.Targets.{span_targets, meet_start, meet_step, meet_end}

-- the sets to which S leads are met span by span: those from a on are left
module _ (lower upper : ℕ) (A : Automaton) (S : Set) (old : List Set) where
  pub meet_begins : meet_sets (span_targets lower upper A S) old ≡ meet_sets (set_targets lower upper A S) old
  meet_begins = sym (meet_start lower upper A S old)

  module _ (a : ℕ) (T : List Set) (i : meet_sets (span_targets a upper A S) T ≡ meet_sets (set_targets lower upper A S) old) where
    pub meet_next : a < upper + 1 → (R : Set) (U : List Set) (c : ℕ) → R ≡ step A S a → U ≡ add_set R T → c ≡ next_cut a (upper + 1) (outgoing A S)
        → meet_sets (span_targets c upper A S) U ≡ meet_sets (set_targets lower upper A S) old
    meet_next h R U c r e f = rw (e, r, f, add-one upper) (sym (meet_step lower upper A S a T (omega arith)) ∙ i)

    pub meet_ended : upper + 1 ≤ a → T ≡ meet_sets (set_targets lower upper A S) old
    meet_ended h = sym (meet_end lower upper A S a T (omega arith)) ∙ i

    -- a full table stays full
    pub meet_full : most_states ≤ length T → most_states ≤ length (meet_sets (set_targets lower upper A S) old)
    meet_full h = rw (sym i) (omega (arith, extends_length (meet_extends (span_targets a upper A S) T)))

-- the entries of the table are taken one after the other: i of them are done
module _ (lower upper : ℕ) (A : Automaton) where
  abbrev pub queue : ℕ → List Set → SearchResult Set
  queue = Queue.queue (subsets lower upper A) (most_states - 1)

  pub queue_begins : queue 0 (start_set A ∷ []) ≡ set_table lower upper A
  unfolding set_table subsets
  queue_begins = sym (Queue.queue_begin (subsets lower upper A) (most_states - 1))

  module _ (i : ℕ) (T : List Set) (l : i < most_states) (q : queue i T ≡ set_table lower upper A) where
    next : i < length T → queue i T ≡ queue (suc i) (meet_sets (set_targets lower upper A (get_or T i [])) T)
    unfolding subsets meet_sets
    next h =
        Queue.queue_step (subsets lower upper A) (most_states - 1) i T (omega arith) h
        ∙ ap (λ S. queue (suc i) (Search.meet same (nonempty_of (set_targets lower upper A S)) T)) (at_default T i (start_set A) [] h)

    pub queue_next : i < length T → (U : List Set) → U ≡ meet_sets (set_targets lower upper A (get_or T i [])) T → queue (i + 1) U ≡ set_table lower upper A
    queue_next h U e = rw (e, add-one i) (sym (next h) ∙ q)

    pub queue_ended : length T ≤ i → set_table lower upper A ≡ found T
    queue_ended h = sym q ∙ Queue.queue_end (subsets lower upper A) (most_states - 1) i T (omega arith) h

    pub queue_full : i < length T → most_states ≤ length (meet_sets (set_targets lower upper A (get_or T i [])) T) → set_table lower upper A ≡ over
    queue_full h f = sym q ∙ next h ∙ Queue.queue_over (subsets lower upper A) (most_states - 1) (suc i) (meet_sets (set_targets lower upper A (get_or T i [])) T) (omega arith) (omega arith)
