-- The finished table is the list of the nonempty sets that words reach; there is none exactly when they are more than 255.
use Rattle.std.proofs.Common.{◌≡◌, ℕ, ◌-◌, ◌<◌, ◌≤◌, true, false, not, ltb, ◌⊎◌, ◌↔◌, List, [], ◌∷◌, length, get_or, sym, refl, ap, ◌∙◌, subst, inl, inr, ⊎_elim, arith, ltb-false, ltb-true}
use mathlib.Core.Bool.{false≢true}
use borrow.Author.Tests.{not-true}
use lib.ListN.{get_or-eq_default}
use Rattle.lists.specs.Lists.{◌∈◌}
use Rattle.lists.proofs.Lists.{filter_in, filter_out}
use Rattle.lists.proofs.Members.{at_in, at_default}
use Rattle.lists.proofs.Tests.{test}
use Rattle.automata.specs.Automaton.{Automaton, stay, Word, none, more, InBounds}
use Rattle.automata.specs.WellFormed.{most_states}
use Rattle.search.specs.Search.{Graph, over, found}
use Rattle.search.proofs.Reached as graph
use Rattle.search.proofs.Queue
use Rattle.sets.specs.Sets.{Set, is_empty}
use Rattle.sets.proofs.Sets.{has_nil, empty_yes, empty_no}
use Rattle.lists.proofs.Index.{Decides, same_decides}
use Rattle.sets.proofs.Tables.{In}
use Rattle.words.specs.Simulation.{step, simulate, start_set}
use Rattle.words.proofs.Closures.{closure_complete}
use Rattle.words.proofs.Outgoing.{step_nil}
use Rattle.words.proofs.Reading.{simulate_nothing}
use Rattle.determinize.specs.Determinize.{set_targets, nonempty_of, subsets, set_table}
use Rattle.determinize.specs.Reached.{SetReached, ReachedSets, MoreThan, AllReached}
use Rattle.determinize.proofs.Targets.{targets_reached, targets_in}

module _ (lower upper : ℕ) (A : Automaton) where
  -- the graph of the nonempty sets
  abbrev G : Graph Set
  G = subsets lower upper A

  decides : Decides G.same
  unfolding subsets
  decides = same_decides

  -- a symbol leads to nothing or to a set to which the graph leads
  next_in : (S : Set) (a : ℕ) → lower ≤ a → a ≤ upper → (step A S a ≡ []) ⊎ (step A S a ∈ G.next S)
  unfolding subsets nonempty_of
  next_in S a l u =
      ⊎_elim (λ (t : is_empty (step A S a) ≡ true). inl (empty_yes _ t))
      (λ (t : is_empty (step A S a) ≡ false).
      ⊎_elim inl (λ m. inr (filter_in (λ R. not (is_empty R)) m (ap not t))) (targets_in lower upper A S a l u))
      (test (is_empty (step A S a)))

  -- the graph reaches just the nonempty sets that words reach
  by_words : {S : Set} → graph.Reached G S → SetReached lower upper A S
  unfolding subsets nonempty_of simulate
  by_words graph.start = ([], none, refl)
  by_words (graph.step {x = S} {y = R} r m) = targets_reached lower upper A S (by_words r) R (filter_out (λ R. not (is_empty R)) R (set_targets lower upper A S) m).0

  by_graph : (S : Set) → graph.Reached G S → (w : List ℕ) → Word lower upper w → (simulate A S w ≡ []) ⊎ graph.Reached G (simulate A S w)
  unfolding simulate
  by_graph S r [] none = inr r
  by_graph S r (a ∷ w) (more l u v) =
      ⊎_elim (λ (z : step A S a ≡ []). inl (ap (λ R. simulate A R w) z ∙ simulate_nothing A w)) (λ m. by_graph (step A S a) (graph.step r m) w v)
      (next_in S a l u)

  module _ (ok : InBounds A) where
    start_some : start_set A ≡ [] → ⊥
    unfolding start_set
    start_some e = false≢true (sym (has_nil A.start) ∙ (rw e at (closure_complete A ok ok.starts stay)))

    reached_some : {S : Set} → graph.Reached G S → S ≡ [] → ⊥
    unfolding subsets nonempty_of
    reached_some graph.start = start_some
    reached_some (graph.step {x = S} {y = R} r m) = empty_no R (not-true (is_empty R) (filter_out (λ R. not (is_empty R)) R (set_targets lower upper A S) m).1)

    good_words : (T : List Set) → graph.ReachedElements G T → ReachedSets lower upper A T
    good_words T g = record { distinct = g.distinct; nonempty = λ S m. reached_some (g.reached S m); reached = λ S m. by_words (g.reached S m) }

    words_reached : (S : Set) → SetReached lower upper A S → (S ≡ [] → ⊥) → graph.Reached G S
    unfolding subsets
    words_reached S r n =
        ⊎_elim (λ (z : simulate A (start_set A) r.0 ≡ []). absurd (n (sym r.2 ∙ z))) (λ k. subst (graph.Reached G) r.2 k)
        (by_graph (start_set A) graph.start r.0 r.1)

    words_good : (T : List Set) → ReachedSets lower upper A T → graph.ReachedElements G T
    words_good T g = record { distinct = g.distinct; reached = λ S m. words_reached S (g.reached S m) (g.nonempty S m) }

    module _ (T : List Set) (e : set_table lower upper A ≡ found T) where
      pub table_few : length T < most_states
      unfolding set_table
      table_few = omega (arith, Queue.table_few G decides (most_states - 1) T e)

      pub table_some : 0 < length T
      unfolding set_table
      table_some = Queue.table_some G decides (most_states - 1) T e

      pub table_start : get_or T 0 [] ≡ start_set A
      unfolding set_table subsets
      table_start = at_default T 0 [] (start_set A) table_some ∙ Queue.table_start G decides (most_states - 1) T e

      -- every symbol leads from an entry to an entry or to nothing
      pub table_closed : (j a : ℕ) → lower ≤ a → a ≤ upper → In T (step A (get_or T j []) a)
      unfolding set_table
      table_closed j a l u =
          ⊎_elim
          (λ (t : ltb j (length T) ≡ true).
          ⊎_elim inl
          (λ m. inr (Queue.table_closed G decides (most_states - 1) T e (get_or T j []) (step A (get_or T j []) a) (at_in T j [] (ltb-true _ _ t)) m))
          (next_in (get_or T j []) a l u))
          (λ (t : ltb j (length T) ≡ false).
          let q : get_or T j [] ≡ [] = get_or-eq_default T [] (ltb-false _ _ t) in
          inl (rw q (step_nil A a)))
          (test (ltb j (length T)))

      pub table_all : AllReached lower upper A T
      unfolding set_table
      table_all =
          let r = Queue.table_all G decides (most_states - 1) T e in
          record { good = good_words T r.good; whole = λ S w n. r.whole S (words_reached S w n) }

    pub over_exact : (set_table lower upper A ≡ over) ↔ MoreThan 255 lower upper A
    unfolding set_table
    over_exact =
        let x = Queue.over_exact G decides (most_states - 1) in
        (λ e. let m = x.0 e in (m.0, good_words m.0 m.1, m.2), λ m. x.1 (m.0, words_good m.0 m.1, m.2))
