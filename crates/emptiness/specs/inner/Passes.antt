-- For inner contracts. What one pass over the records tells, upward or downward.
use Rattle.std.specs.Prelude.{ℕ, zero, suc, ◌+◌, ◌*◌, true, false, List, [], ◌∷◌, ◌⊎◌, ◌≡◌, length}
use Rattle.lists.specs.Lists.{◌∈◌, Ascending}
use Rattle.automata.specs.Automaton.{Transition, Automaton, accept_of}
use Rattle.automata.specs.inner.Records.{record_at}
use Rattle.emptiness.specs.Reachable.{Path, has_reachable_accepting}
use Rattle.emptiness.specs.declared.Pass.{Pass}
use Rattle.emptiness.specs.declared.Pass.TheVariants.{Accepts, Rejects, Undecided}
use Rattle.emptiness.specs.inner.Marks.{Marked}

-- the start was met; each state that was met is reachable and does not accept
pub record MetStates (A : Automaton) (marks : List ℕ) : Type 0 where
  pub wide : length marks ≡ 256
  pub started : Marked marks A.start
  pub paths : (x : ℕ) → Marked marks x → Path A A.start x
  pub rejects : (x : ℕ) → Marked marks x → accept_of A x ≡ 0

-- what a pass tells of A is so, and the states that are marked were met
pub data PassTells (A : Automaton) (marks : List ℕ) : Pass → Type 0 where
  accepts : has_reachable_accepting A ≡ true → PassTells A marks Accepts
  rejects : has_reachable_accepting A ≡ false → PassTells A marks Rejects
  undecided : MetStates A marks → PassTells A marks Undecided

-- a pass over the transitions of A, of which es are left, in the order R of the states that they leave: the transitions that are not left and leave a state
-- that was met lead to states that were met
pub record PassInvariant (R : ℕ → ℕ → Type 0) (A : Automaton) (marks : List ℕ) (es : List Transition) : Type 0 where
  pub met : MetStates A marks
  pub ordered : Ascending (λ d e. R d.from e.from) es
  pub among : (e : Transition) → e ∈ es → e ∈ A.transitions
  pub passed : (e : Transition) → e ∈ A.transitions → (e ∈ es) ⊎ ((d : Transition) → d ∈ es → R e.from d.from)
  pub followed : (e : Transition) → e ∈ A.transitions → Marked marks e.from → Marked marks e.to ⊎ (e ∈ es)

-- the first k records of s from the place o on, the last of them first
unfoldable pub backward : List ℕ → ℕ → ℕ → List Transition
backward s o zero = []
backward s o (suc k) = record_at s (o + 5 * k) ∷ backward s o k
