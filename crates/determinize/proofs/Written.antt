-- The result can be written as a sheet: it is well-formed where the input is, and its transitions ascend.
use Rattle.std.proofs.Common.{◌≡◌, ℕ, suc, ◌≤◌, ltb, List, [], ◌∷◌, get_or, refl, ◌∙◌, ⊎_elim, arith, ltb-false, ltb-true}
use lib.ListN.{length-map}
use Rattle.lists.specs.Lists.{Ascending}
use Rattle.lists.proofs.Tests.{test}
use Rattle.automata.specs.Automaton.{Automaton}
use Rattle.automata.specs.WellFormed.{greatest_accept, Lex, Before, WellFormed}
use Rattle.sets.specs.Sets.{Set}
use Rattle.words.specs.Simulation.{outgoing, kind_of}
use Rattle.words.proofs.Kind.{kind_of_some}
use Rattle.search.specs.Search.{found}
use Rattle.lists.proofs.Members.{ascending_map, ascending_append}
use Rattle.ranges.proofs.Spans.{SpanBefore, cut_ascend}
use Rattle.determinize.specs.Determinize.{set_table, sets_and_sink, set_transition, set_transitions, set_transitions_from, subset_automaton}
use Rattle.determinize.proofs.Result.{length_states, from_of, from_above, accept_built}
use Rattle.determinize.proofs.Runs.{transition_facts, built_bounds}

module _ (lower upper : ℕ) (A : Automaton) (T : List Set) where
  transitions_ascend : (j : ℕ) (Ss : List Set) → Ascending Before (set_transitions_from lower upper A T j Ss)
  unfolding set_transitions_from set_transitions set_transition
  transitions_ascend j [] = Ascending.none
  transitions_ascend j (S ∷ Ss) =
      ascending_append
      (ascending_map {R = SpanBefore} (set_transition A T j S) (λ s t h. Lex.later refl (Lex.later refl (Lex.here (omega (arith, h.0, h.1))))) (cut_ascend lower upper (outgoing A S)))
      (transitions_ascend (suc j) Ss)
      (λ d c m n. let f = from_of lower upper A T j S d m in let g = from_above lower upper A T (suc j) Ss c n in Lex.here (omega arith))

-- an accept word of a set is one of its members'
kind_of_most : (A : Automaton) → ((q : ℕ) → get_or A.accept q 0 ≤ greatest_accept) → (S : Set) → kind_of A S ≤ greatest_accept
kind_of_most A h S =
    ⊎_elim (λ t. let r = kind_of_some A S (ltb-true 0 (kind_of A S) t) in let k = h r.0 in omega (arith, r.2)) (λ t. let k = ltb-false 0 (kind_of A S) t in omega arith)
    (test (ltb 0 (kind_of A S)))

pub built_well_formed : (lower upper : ℕ) (A : Automaton) → WellFormed A → (T : List Set) → set_table lower upper A ≡ found T → WellFormed (subset_automaton lower upper A T)
built_well_formed lower upper A w T e =
    record {
      states = built_bounds lower upper A w.states T e;
      accepts = unfold subset_automaton in length-map (sets_and_sink T) (kind_of A) ∙ length_states T;
      accept_words_lem = λ q. rw (accept_built lower upper A T q) (kind_of_most A w.accept_words_lem (get_or T q []));
      sound = λ d m.
          let r = transition_facts lower upper A w.states T e d m in
          let k = r.is_range in
          record { known = omega arith; full = r.full; blank = λ z. absurd (omega arith) };
      ascends = unfold subset_automaton in transitions_ascend lower upper A T 0 (sets_and_sink T);
    }
