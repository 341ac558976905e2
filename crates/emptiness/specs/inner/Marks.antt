-- For inner contracts. What the search keeps: a mark for each state that was met, and a stack of met states whose transitions are still to be followed.
use Rattle.std.specs.Prelude.{ℕ, ◌+◌, ◌≤◌, ◌<◌, List, map, ◌⊎◌, ◌≡◌, eqb, length, get_or, set}
use Rattle.std.proofs.lemmas.List.Edits.{sets}
use Rattle.lists.specs.Lists.{◌∈◌, filter, tabulate}
use Rattle.automata.specs.Automaton.{Transition, Automaton, accept_of, leaving}
use Rattle.sheets.specs.inner.Accepted.{Accepted}
use Rattle.sheets.specs.inner.Runs.{Indexed}
use Rattle.sheets.specs.Sheet.{read}
use Rattle.emptiness.specs.Reachable.{Path}

-- the state q was met
abbrev pub Marked : List ℕ → ℕ → Type 0
Marked marks q = 0 < get_or marks q 0

-- no state was met
pub record Unmarked (marks : List ℕ) : Type 0 where
  pub wide : length marks ≡ 256
  pub nothing : (q : ℕ) → get_or marks q 0 ≡ 0

-- how many states were not met
unfoldable pub unmet : List ℕ → ℕ
unmet marks = length (filter (λ x. eqb x 0) marks)

-- the stack has room for each state that was not met
pub record StackRoom (marks stack : List ℕ) (top : ℕ) : Type 0 where
  pub wide : length marks ≡ 256
  pub long : length stack ≡ 256
  pub enough : top + unmet marks ≤ 256

-- the state t was met already and nothing changed, or it was not, and is marked and stands on the stack, behind what stood there
pub data PushedState (marks stack : List ℕ) (top t : ℕ) : List ℕ → List ℕ → ℕ → Type 0 where
  was_met : (get_or marks t 0 ≡ 0 → ⊥) → PushedState marks stack top t marks stack top
  was_unmet : get_or marks t 0 ≡ 0 → PushedState marks stack top t (set marks t 1) (set stack top t) (top + 1)

-- the targets of the transitions es but those of ds were met; those that were not met before stand on the stack, behind what stood there
pub record Pushed (marks stack : List ℕ) (top : ℕ) (es ds : List Transition) (marks' stack' : List ℕ) (top' : ℕ) : Type 0 where
  pub room : StackRoom marks' stack' top'
  pub grows : top ≤ top'
  pub total : top' + unmet marks' ≡ top + unmet marks
  pub among : (e : Transition) → e ∈ ds → e ∈ es
  pub old : (q : ℕ) → Marked marks q → Marked marks' q
  pub targets : (e : Transition) → e ∈ es → Marked marks' e.to ⊎ (e ∈ ds)
  pub stacked : (q : ℕ) → Marked marks' q → Marked marks q ⊎ ((j : ℕ) × (top ≤ j) × (j < top') × (get_or stack' j 0 ≡ q))
  pub keeps : (j : ℕ) → j < top → get_or stack' j 0 ≡ get_or stack j 0
  pub sources : (j : ℕ) → top ≤ j → j < top' → (e : Transition) × e ∈ es × (get_or stack' j 0 ≡ e.to)
  pub entered : (j : ℕ) → top ≤ j → j < top' → Marked marks' (get_or stack' j 0)

-- the state x does not accept, and its transitions were followed
pub record Done (A : Automaton) (marks : List ℕ) (x : ℕ) : Type 0 where
  pub rejects : accept_of A x ≡ 0
  pub followed : (e : Transition) → e ∈ A.transitions → e.from ≡ x → Marked marks e.to

-- the search of A at the state q: the states that were met and are neither q nor on the stack are done
pub record Searched (A : Automaton) (marks stack : List ℕ) (top q : ℕ) : Type 0 where
  pub room : StackRoom marks stack top
  pub started : Marked marks A.start
  pub here : Marked marks q
  pub entered : (j : ℕ) → j < top → Marked marks (get_or stack j 0)
  pub paths : (x : ℕ) → Marked marks x → Path A A.start x
  pub others : (x : ℕ) → Marked marks x → (x ≡ q) ⊎ (((j : ℕ) × (j < top) × (get_or stack j 0 ≡ x)) ⊎ Done A marks x)

-- the target of the first transition that leaves q; q itself, if none does
unfoldable pub first_target : Automaton → ℕ → ℕ
first_target A q = get_or (map (λ e. e.to) (leaving A q)) 0 q

-- old, with the first targets of the states below n at its front
unfoldable pub targets_below : Automaton → List ℕ → ℕ → List ℕ
targets_below A old n = sets old 0 (tabulate n (first_target A))

-- targets is, at its front, the table of the first targets of all states
pub record FirstTargets (A : Automaton) (targets : List ℕ) : Type 0 where
  pub long : length targets ≡ 256
  pub at : (q : ℕ) → q < A.size → get_or targets q 0 ≡ first_target A q

-- before the search: where the runs of the accepted sheet begin is known, and the first target of each state, and no state was met
pub record UnmarkedSearch (s starts targets marks stack : List ℕ) : Type 0 where
  pub accepted : Accepted s
  pub indexed : Indexed s starts
  pub first : FirstTargets (read s) targets
  pub unmarked : Unmarked marks
  pub long : length stack ≡ 256
