-- The four answers of the product, and that each tells which of them it is.
use Prim.Native.Nat.{◌≤◌, ◌<◌}
use mathlib.Core.Bool.{true, false}
use mathlib.Core.List.{List, map}
use mathlib.Core.Logic.{⊎_elim}
use mathlib.Core.Path.{◌≡◌, refl, ◌∙◌, ap}
use borrow.Author.Tests.{lt-ltb, le-ltb, ltb-true, ltb-false}
use lib.Dec.{ltb}
use lib.ListN.{length}
use Rattle.lists.specs.Lists.{any}
use Rattle.lists.proofs.Tests.{test}
use Rattle.automata.specs.Automaton.{Automaton}
use Rattle.automata.specs.WellFormed.{most_states, most_transitions}
use Rattle.output.specs.Output.{transitions_first}
use Rattle.refusal.specs.Answer.{refused, given}
use Rattle.search.specs.Search.{SearchResult, over, found, table}
use Rattle.automata.specs.Pairs.{Pair}
use Rattle.product.specs.Product.{meeting_pairs, product_automaton, blocked_at, pair_label_of, labelled, pairs_answer, product}

module _ (A B : Automaton) where
  -- the four answers
  pub answer_over : table (meeting_pairs A B) most_states ≡ over → product A B ≡ refused 21
  unfolding product pairs_answer
  answer_over e = ap (pairs_answer A B) e

  module _ (T : List Pair) (e : table (meeting_pairs A B) most_states ≡ found T) where
    pub answer_blocked : any (blocked_at A B) T ≡ true → product A B ≡ refused 7
    unfolding product pairs_answer
    answer_blocked h = ap (pairs_answer A B) e ∙ rw h

    pub answer_many : any (blocked_at A B) T ≡ false → most_transitions < length (product_automaton A B T).transitions → product A B ≡ refused 22
    unfolding product pairs_answer labelled transitions_first
    answer_many h l = ap (pairs_answer A B) e ∙ rw (h, lt-ltb most_transitions (length (product_automaton A B T).transitions) l)

    pub answer_given : any (blocked_at A B) T ≡ false → length (product_automaton A B T).transitions ≤ most_transitions → product A B ≡ given (record { automaton = product_automaton A B T; labels = map pair_label_of T })
    unfolding product pairs_answer labelled transitions_first
    answer_given h l = ap (pairs_answer A B) e ∙ rw (h, le-ltb most_transitions (length (product_automaton A B T).transitions) l)

  -- which of them it is
  pub data Outcome : Type 0 where
    many_pairs : table (meeting_pairs A B) most_states ≡ over → product A B ≡ refused 21 → Outcome
    stopped : (T : List Pair) → table (meeting_pairs A B) most_states ≡ found T → any (blocked_at A B) T ≡ true → product A B ≡ refused 7 → Outcome
    many_transitions : (T : List Pair) → table (meeting_pairs A B) most_states ≡ found T → any (blocked_at A B) T ≡ false → most_transitions < length (product_automaton A B T).transitions
        → product A B ≡ refused 22 → Outcome
    made : (T : List Pair) → table (meeting_pairs A B) most_states ≡ found T → any (blocked_at A B) T ≡ false → length (product_automaton A B T).transitions ≤ most_transitions
        → product A B ≡ given (record { automaton = product_automaton A B T; labels = map pair_label_of T }) → Outcome

  pub outcome : Outcome
  outcome = go (table (meeting_pairs A B) most_states) refl
    where
      go : (f : SearchResult Pair) → table (meeting_pairs A B) most_states ≡ f → Outcome
      go over e = many_pairs e (answer_over e)
      go (found T) e =
          let n = length (product_automaton A B T).transitions in
          ⊎_elim (λ b. stopped T e b (answer_blocked T e b))
          (λ b.
          ⊎_elim (λ t. let h = ltb-true most_transitions n t in many_transitions T e b h (answer_many T e b h)) (λ t. let h = ltb-false most_transitions n t in made T e b h (answer_given T e b h))
          (test (ltb most_transitions n)))
          (test (any (blocked_at A B) T))
