-- The states that are reached from the start (document 01, "Product, totality, complement, emptiness"): every transition is
-- followed, and the start counts as reached.
use Rattle.std.specs.Prelude.{ℕ, Bool, List, map, ◌≡◌, ltb}
use Rattle.lists.specs.Lists.{◌∈◌, any}
use Rattle.automata.specs.Automaton.{Transition, Automaton, accept_of}
use Rattle.refusal.specs.Answer.{Answer, given}
use Rattle.sets.specs.Sets.{Set}
use Rattle.sheets.specs.Checked.{sheet_first}
use Rattle.sheets.specs.Sheet.{read}
use Rattle.words.specs.Simulation.{closure}

-- any number of transitions, epsilons and ranges, one after the other
pub data Path (A : Automaton) : ℕ → ℕ → Type 0 where
  stay : {p : ℕ} → Path A p p
  follow : {p q : ℕ} (e : Transition) → e ∈ A.transitions → e.from ≡ p → Path A e.to q → Path A p q

-- the transition e without its symbols
abbrev pub unlabelled : Transition → Transition
unlabelled e = record { from = e.from; kind = 0; first = 0; last = 0; to = e.to }

-- every transition taken for an epsilon
unfoldable pub freed : Automaton → Automaton
freed A = record { size = A.size; start = A.start; accept = A.accept; transitions = map unlabelled A.transitions }

-- the states that paths from the start lead to
unfoldable pub reachable : Automaton → Set
reachable A = closure (freed A) A.start

-- some reachable state accepts; an automaton is empty when this is false
unfoldable pub has_reachable_accepting : Automaton → Bool
has_reachable_accepting A = any (λ q. ltb 0 (accept_of A q)) (reachable A)

-- the answer for a sheet
unfoldable pub reachable_answer : List ℕ → Answer Bool
reachable_answer s = sheet_first s (given (has_reachable_accepting (read s)))
