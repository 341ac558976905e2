-- The three answers, and that each answer tells which of them it is.
use Rattle.std.proofs.Common.{◌≡◌, ℕ, ◌<◌, ◌≤◌, ltb, List, length, refl, ap, ◌∙◌, ⊎_elim, arith, ltb-false, ltb-true, le-ltb, lt-ltb}
use Rattle.lists.proofs.Tests.{test}
use Rattle.automata.specs.Automaton.{Automaton}
use Rattle.automata.specs.WellFormed.{most_transitions}
use Rattle.sets.specs.Sets.{Set}
use Rattle.output.specs.Output.{transitions_first}
use Rattle.refusal.specs.Answer.{refused, given}
use Rattle.search.specs.Search.{SearchResult, over, found}
use Rattle.determinize.specs.Determinize.{set_table, subset_automaton, subsets_answer, determinize}

module _ (lower upper : ℕ) (A : Automaton) where
  -- the three answers
  pub answer_over : set_table lower upper A ≡ over → determinize lower upper A ≡ refused 21
  unfolding determinize subsets_answer
  answer_over e = ap (subsets_answer lower upper A) e

  module _ (T : List Set) (e : set_table lower upper A ≡ found T) where
    pub answer_many : most_transitions < length (subset_automaton lower upper A T).transitions → determinize lower upper A ≡ refused 22
    unfolding determinize subsets_answer transitions_first
    answer_many h = ap (subsets_answer lower upper A) e ∙ rw (lt-ltb _ _ h)

    pub answer_given : length (subset_automaton lower upper A T).transitions ≤ most_transitions → determinize lower upper A ≡ given (subset_automaton lower upper A T)
    unfolding determinize subsets_answer transitions_first
    answer_given h = ap (subsets_answer lower upper A) e ∙ rw (le-ltb most_transitions (length (subset_automaton lower upper A T).transitions) h)

  -- which of them it is
  pub data Outcome : Type 0 where
    too_many_sets : set_table lower upper A ≡ over → determinize lower upper A ≡ refused 21 → Outcome
    too_many_transitions : (T : List Set) → set_table lower upper A ≡ found T → most_transitions < length (subset_automaton lower upper A T).transitions
        → determinize lower upper A ≡ refused 22 → Outcome
    fits : (T : List Set) → set_table lower upper A ≡ found T → length (subset_automaton lower upper A T).transitions ≤ most_transitions
        → determinize lower upper A ≡ given (subset_automaton lower upper A T) → Outcome

  pub outcome : Outcome
  outcome = go (set_table lower upper A) refl
    where
      go : (f : SearchResult Set) → set_table lower upper A ≡ f → Outcome
      go over e = too_many_sets e (answer_over e)
      go (found T) e =
          let n = length (subset_automaton lower upper A T).transitions in
          ⊎_elim (λ t. let h = ltb-true most_transitions n t in too_many_transitions T e h (answer_many T e h)) (λ t. let h = ltb-false most_transitions n t in fits T e h (answer_given T e h))
          (test (ltb most_transitions n))

  -- no other refusal is given
  pub refused_above : (n : ℕ) → determinize lower upper A ≡ refused n → 20 < n
  refused_above n p = go outcome
    where
      go : Outcome → 20 < n
      go (too_many_sets e q) = let z : 21 ≡ n = cc in omega arith
      go (too_many_transitions T e h q) = let z : 22 ≡ n = cc in omega arith
      go (fits T e h q) = let z : ◌≡◌ {A = ℕ} 0 1 = cc in absurd (omega arith)

  -- an automaton that was given comes from a finished table, with few enough transitions
  pub record Built (D : Automaton) : Type 0 where
    pub sets : List Set
    pub whole : set_table lower upper A ≡ found sets
    pub is : D ≡ subset_automaton lower upper A sets
    pub few : length D.transitions ≤ most_transitions

  pub made_built : (D : Automaton) → determinize lower upper A ≡ given D → Built D
  made_built D p = go outcome
    where
      go : Outcome → Built D
      go (too_many_sets e q) = let z : ◌≡◌ {A = ℕ} 0 1 = cc in absurd (omega arith)
      go (too_many_transitions T e h q) = let z : ◌≡◌ {A = ℕ} 0 1 = cc in absurd (omega arith)
      go (fits T e h q) = let r : D ≡ subset_automaton lower upper A T = cc in record { sets = T; whole = e; is = r; few = rw r h }

  pub refused_over : determinize lower upper A ≡ refused 21 → set_table lower upper A ≡ over
  refused_over p = go outcome
    where
      go : Outcome → set_table lower upper A ≡ over
      go (too_many_sets e q) = e
      go (too_many_transitions T e h q) = let z : ◌≡◌ {A = ℕ} 21 22 = cc in absurd (omega arith)
      go (fits T e h q) = let z : ◌≡◌ {A = ℕ} 0 1 = cc in absurd (omega arith)

  -- 22 is given to a finished table with too many transitions
  pub record Many : Type 0 where
    pub sets : List Set
    pub whole : set_table lower upper A ≡ found sets
    pub many : most_transitions < length (subset_automaton lower upper A sets).transitions

  pub refused_many : determinize lower upper A ≡ refused 22 → Many
  refused_many p = go outcome
    where
      go : Outcome → Many
      go (too_many_sets e q) = let z : ◌≡◌ {A = ℕ} 21 22 = cc in absurd (omega arith)
      go (too_many_transitions T e h q) = record { sets = T; whole = e; many = h }
      go (fits T e h q) = let z : ◌≡◌ {A = ℕ} 0 1 = cc in absurd (omega arith)
