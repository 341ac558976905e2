-- `is_nfa` on automata and on sheets (document 01, "Product, totality, complement, emptiness"). `lower` and `upper` are the least and the greatest symbol.
use Rattle.std.specs.Prelude.{ℕ, ◌≤◌, ◌<◌, Bool, false, ◌||◌, ◌≡◌, ltb, length}
use mathlib.Core.List.{List, [], flat_map}
use Rattle.lists.specs.Lists.{◌∈◌, any}
use Rattle.automata.specs.Automaton.{Transition, Automaton, states, carries, leaving, ranges_of, has_epsilon}
use Rattle.ranges.specs.Span.{Span, overlapping, Shared}
use Rattle.ranges.specs.Missing.{missing}
use Rattle.refusal.specs.Answer.{Answer, given}
use Rattle.sheets.specs.Checked.{sheet_first}
use Rattle.sheets.specs.Sheet.{read}

-- the holes that transitions leave
unfoldable pub holes_of : ℕ → ℕ → List Transition → List Span
holes_of lower upper es = missing lower upper (ranges_of es)

-- the holes of the states qs
unfoldable pub holes_in : ℕ → ℕ → Automaton → List ℕ → List Span
holes_in lower upper A qs = flat_map (λ q. holes_of lower upper (leaving A q)) qs

-- the transitions of one state have an epsilon, an overlap or a hole
unfoldable pub is_nfa_at : ℕ → ℕ → List Transition → Bool
is_nfa_at lower upper es = has_epsilon es || (overlapping (ranges_of es) || ltb 0 (length (holes_of lower upper es)))

-- those of one of the states qs have
unfoldable pub is_nfa_in : ℕ → ℕ → Automaton → List ℕ → Bool
is_nfa_in lower upper A qs = any (λ q. is_nfa_at lower upper (leaving A q)) qs

unfoldable pub is_nfa : ℕ → ℕ → Automaton → Bool
is_nfa lower upper A = is_nfa_in lower upper A (states A.size)

-- the answer of `is_nfa`, the sheet's fault first
unfoldable pub is_nfa_answer : ℕ → ℕ → List ℕ → Answer Bool
is_nfa_answer lower upper s = sheet_first s (given (is_nfa lower upper (read s)))

-- the transitions of a state have no epsilon, no overlap and no hole
pub record DeterministicAt (lower upper : ℕ) (es : List Transition) : Type 0 where
  pub no_epsilon : has_epsilon es ≡ false
  pub no_overlap : overlapping (ranges_of es) ≡ false
  pub no_hole : holes_of lower upper es ≡ []

-- an epsilon; an overlap, two ranges of a state that hold the same symbol; or a hole, a symbol that no range of a state holds
pub data Nondeterministic (lower upper : ℕ) (A : Automaton) : Type 0 where
  epsilon : (e : Transition) → e ∈ A.transitions → e.kind ≡ 0 → Nondeterministic lower upper A
  overlap : (q : ℕ) → q < A.size → Shared (ranges_of (leaving A q)) → Nondeterministic lower upper A
  hole : (q x : ℕ) → q < A.size → lower ≤ x → x ≤ upper → ((e : Transition) → e ∈ A.transitions → carries q x e ≡ false) → Nondeterministic lower upper A

-- every symbol from lower to upper has a transition in every state
pub record CompleteAutomaton (lower upper : ℕ) (A : Automaton) : Type 0 where
  pub next : (q x : ℕ) → q < A.size → lower ≤ x → x ≤ upper → (e : Transition) × e ∈ A.transitions × (e.from ≡ q) × (e.kind ≡ 1) × (e.first ≤ x) × (x ≤ e.last)
