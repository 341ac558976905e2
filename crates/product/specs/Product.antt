-- The product of two automata (document 01, "Product, totality, complement, emptiness"): the table of the pairs of states that ranges reach, and the
-- automaton made from it.
use Rattle.std.specs.Prelude.{ℕ, suc, Bool, true, false, cond, ◌&&◌, ◌||◌, not, Option, Some, None, List, [], ◌∷◌, ◌++◌, map, eqb, length}
use Rattle.lists.specs.Lists.{any}
use Rattle.automata.specs.Automaton.{Transition, Automaton, leaving, ranges_of, has_epsilon, accept_of}
use Rattle.automata.specs.Ordered.{in_order}
use Rattle.automata.specs.Pairs.{Pair, same_pair}
use Rattle.automata.specs.WellFormed.{most_states}
use Rattle.labels.specs.Forms.{pair_label}
use Rattle.output.specs.Output.{Pattern, room_first, transitions_first}
use Rattle.ranges.specs.Span.{Span, intersect_ranges}
use Rattle.refusal.specs.Answer.{Answer, refused, given}
use Rattle.search.specs.Search.{Graph, index, SearchResult, over, found, table}
use Rattle.sheets.specs.Checked.{sheet_first}
use Rattle.sheets.specs.Sheet.{read}

-- the symbols that a range of the first and one of the second share, and the pair to which the two lead
pub record Joint : Type 0 where
  pub span : Span
  pub to : Pair

abbrev pub symbols_of : Transition → Span
symbols_of e = record { first = e.first; last = e.last }

unfoldable pub joint_of : Option Span → Pair → List Joint
joint_of None p = []
joint_of (Some s) p = record { span = s; to = p } ∷ []

-- two ranges, if they meet
unfoldable pub joint : Transition → Transition → List Joint
joint d e = joint_of (intersect_ranges (symbols_of d) (symbols_of e)) (record { left = d.to; right = e.to })

-- one range with each of others, and then each of some with each of others
unfoldable pub joints_with : Transition → List Transition → List Joint
joints_with d [] = []
joints_with d (e ∷ es) = joint d e ++ joints_with d es

unfoldable pub joints : List Transition → List Transition → List Joint
joints [] es = []
joints (d ∷ ds) es = joints_with d es ++ joints ds es

-- those of two runs that are ranges
unfoldable pub joints_of : List Transition → List Transition → List Joint
joints_of ds es = joints (ranges_of ds) (ranges_of es)

-- the ranges that leave the two states of a pair and meet, both runs ascending, the first's outermost
unfoldable pub joints_from : Automaton → Automaton → Pair → List Joint
joints_from A B p = joints_of (leaving A p.left) (leaving B p.right)

-- pairs lead to pairs by ranges that meet
unfoldable pub meeting_pairs : Automaton → Automaton → Graph Pair
meeting_pairs A B = record {
  same = same_pair;
  next = λ p. map (λ j. j.to) (joints_from A B p);
  start = record { left = A.start; right = B.start };
}

-- the transition of a joint that leaves pair i, where f numbers the pairs
unfoldable pub transition_of_joint : (Pair → ℕ) → ℕ → Joint → Transition
transition_of_joint f i j = record { from = i; kind = 1; first = j.span.first; last = j.span.last; to = f j.to }

-- the transitions of the pairs ps, which are numbered from i on
unfoldable pub transitions_from : (Pair → ℕ) → Automaton → Automaton → ℕ → List Pair → List Transition
transitions_from f A B i [] = []
transitions_from f A B i (p ∷ ps) = map (transition_of_joint f i) (joints_from A B p) ++ transitions_from f A B (suc i) ps

-- a pair accepts if both do: its accept word is then the first's
unfoldable pub pair_accept : Automaton → Automaton → Pair → ℕ
pair_accept A B p = cond (eqb (accept_of B p.right) 0) 0 (accept_of A p.left)

-- the place of a pair in the table
abbrev pub place_in : List Pair → Pair → ℕ
place_in T p = index same_pair p T

-- the automaton of a finished table: its transitions are in order, equal ones once
unfoldable pub product_automaton : Automaton → Automaton → List Pair → Automaton
product_automaton A B T = record {
  size = length T;
  start = 0;
  accept = map (pair_accept A B) T;
  transitions = in_order (transitions_from (place_in T) A B 0 T);
}

-- 7: records on both sides and an epsilon on at least one of them
unfoldable pub is_none : List Transition → Bool
is_none [] = true
is_none (e ∷ es) = false

unfoldable pub blocked : List Transition → List Transition → Bool
blocked ds es = (not (is_none ds) && not (is_none es)) && (has_epsilon ds || has_epsilon es)

unfoldable pub blocked_at : Automaton → Automaton → Pair → Bool
blocked_at A B p = blocked (leaving A p.left) (leaving B p.right)

-- the label of a pair, as `(0, 1)`
abbrev pub pair_label_of : Pair → List ℕ
pair_label_of p = pair_label p.left p.right

-- the product of a finished table with its labels
unfoldable pub labelled : Automaton → Automaton → List Pair → Pattern
labelled A B T = record { automaton = product_automaton A B T; labels = map pair_label_of T }

-- 21 where there are too many pairs, then 7, then 22
unfoldable pub pairs_answer : Automaton → Automaton → SearchResult Pair → Answer Pattern
pairs_answer A B over = refused 21
pairs_answer A B (found T) = cond (any (blocked_at A B) T) (refused 7) (transitions_first (product_automaton A B T) (given (labelled A B T)))

unfoldable pub product : Automaton → Automaton → Answer Pattern
product A B = pairs_answer A B (table (meeting_pairs A B) most_states)

-- of two sheets into the outputs o and l: 20, the first's faults, the second's, then 21, 7 and 22
unfoldable pub intersection_answer : List ℕ → List ℕ → List ℕ → List ℕ → Answer Pattern
intersection_answer s t o l = room_first o l (sheet_first s (sheet_first t (product (read s) (read t))))
