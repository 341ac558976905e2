-- `is_equivalent` (document 01, "Equality"). It is true just when no pair of states that equal triggers reach, the first record of each
-- trigger being followed, differs in acceptance or in its triggers. Triggers are taken in no order.
use Rattle.std.specs.Prelude.{ℕ, ◌*◌, Bool, false, not, ◌&&◌, ◌≡◌, eqb, List, map}
use mathlib.Core.List.{flat_map}
use Rattle.lists.specs.Lists.{any, filter}
use Rattle.automata.specs.Automaton.{Transition, Automaton, leaving, accept_of}
use Rattle.refusal.specs.Answer.{Answer, given}
use Rattle.search.specs.Search.{Graph, SearchResult, over, found, table}
use Rattle.sheets.specs.Checked.{sheet_first}
use Rattle.sheets.specs.Sheet.{read}
use Rattle.automata.specs.Pairs.{Pair, same_pair}
use Rattle.equivalence.specs.Triggers.{SameTrigger, FirstOfTrigger, TriggersWithin, same_trigger, firsts, triggers_within}

-- the pair of the starts is reached, and the first records of equal triggers lead from a reached pair to another
pub data ReachedByTriggers (A B : Automaton) : ℕ → ℕ → Type 0 where
  start : ReachedByTriggers A B A.start B.start
  step : {p q : ℕ} {d e : Transition} → ReachedByTriggers A B p q → FirstOfTrigger (leaving A p) d → FirstOfTrigger (leaving B q) e → SameTrigger d e → ReachedByTriggers A B d.to e.to

-- a state of A and one of B differ neither in acceptance nor in their triggers
pub record Alike (A B : Automaton) (p q : ℕ) : Type 0 where
  pub accept : accept_of A p ≡ accept_of B q
  pub there : TriggersWithin (leaving A p) (leaving B q)
  pub back : TriggersWithin (leaving B q) (leaving A p)

-- the same as a test
unfoldable pub alike : Automaton → Automaton → Pair → Bool
alike A B p =
    eqb (accept_of A p.left) (accept_of B p.right)
    && (triggers_within (leaving A p.left) (leaving B p.right) && triggers_within (leaving B p.right) (leaving A p.left))

-- the pairs to which equal triggers of ds and es lead
unfoldable pub trigger_targets_with : List Transition → Transition → List Pair
trigger_targets_with es d = map (λ e. record { left = d.to; right = e.to }) (filter (same_trigger d) es)

unfoldable pub trigger_targets : List Transition → List Transition → List Pair
trigger_targets ds es = flat_map (trigger_targets_with es) ds

-- pairs lead to pairs by the first records of equal triggers
unfoldable pub trigger_pairs : Automaton → Automaton → Graph Pair
trigger_pairs A B = record {
  same = same_pair;
  next = λ p. trigger_targets (firsts (leaving A p.left)) (firsts (leaving B p.right));
  start = record { left = A.start; right = B.start };
}

-- no pair of the table differs
unfoldable pub all_alike : Automaton → Automaton → SearchResult Pair → Bool
all_alike A B over = false
all_alike A B (found T) = not (any (λ p. not (alike A B p)) T)

-- there are no more pairs than states of the one times states of the other
unfoldable pub equivalent : Automaton → Automaton → Bool
equivalent A B = all_alike A B (table (trigger_pairs A B) (A.size * B.size))

-- the answer for two sheets: the first's fault, the second's, or the truth
unfoldable pub equivalent_answer : List ℕ → List ℕ → Answer Bool
equivalent_answer a b = sheet_first a (sheet_first b (given (equivalent (read a) (read b))))
