-- Automata, words, runs and acceptance after Rabin and Scott 1959, with epsilons. No algorithm.
use Rattle.std.specs.Prelude.{ℕ, ◌≤◌, ◌<◌, Bool, ◌&&◌, List, [], ◌∷◌, ◌≡◌, eqb, leb, get_or}
use Rattle.lists.specs.Lists.{◌∈◌, any, filter, tabulate}

-- kind 0 is an epsilon, kind 1 a range of symbols from first to last
pub record Transition : Type 0 where
  pub from : ℕ
  pub kind : ℕ
  pub first : ℕ
  pub last : ℕ
  pub to : ℕ

-- the states are the numbers below size; `accept` has one word a state: 0 rejects
pub record Automaton : Type 0 where
  pub size : ℕ
  pub start : ℕ
  pub accept : List ℕ
  pub transitions : List Transition

-- the states of an automaton of that size
unfoldable pub states : ℕ → List ℕ
states n = tabulate n (λ q. q)

-- a run reads the word from left to right: stay, follow an epsilon, or follow a range that holds the next symbol
pub data Run (A : Automaton) : ℕ → List ℕ → ℕ → Type 0 where
  stay : {p : ℕ} → Run A p [] p
  skip : {p q : ℕ} {w : List ℕ} (e : Transition) → e ∈ A.transitions → e.from ≡ p → e.kind ≡ 0 → Run A e.to w q → Run A p w q
  read : {p q a : ℕ} {w : List ℕ} (e : Transition) → e ∈ A.transitions → e.from ≡ p → e.kind ≡ 1 → e.first ≤ a → a ≤ e.last → Run A e.to w q → Run A p (a ∷ w) q

-- the accept word of a state
abbrev pub accept_of : Automaton → ℕ → ℕ
accept_of A q = get_or A.accept q 0

-- a word is accepted if some run from the start ends in a state whose accept word is not 0
abbrev pub Accepts : Automaton → List ℕ → Type 0
Accepts A w = (q : ℕ) × Run A A.start w q × (0 < accept_of A q)

-- a word of symbols from lower to upper
pub data Word (lower upper : ℕ) : List ℕ → Type 0 where
  none : Word lower upper []
  more : {a : ℕ} {w : List ℕ} → lower ≤ a → a ≤ upper → Word lower upper w → Word lower upper (a ∷ w)

-- the states named are states
pub record InBounds (A : Automaton) : Type 0 where
  pub starts : A.start < A.size
  pub froms : (e : Transition) → e ∈ A.transitions → e.from < A.size
  pub tos : (e : Transition) → e ∈ A.transitions → e.to < A.size

-- the transition's range holds the symbol a
unfoldable pub holds : ℕ → Transition → Bool
holds a e = leb e.first a && leb a e.last

-- the transition leads from state q under the symbol a
unfoldable pub carries : ℕ → ℕ → Transition → Bool
carries q a e = eqb e.from q && (eqb e.kind 1 && holds a e)

-- the transitions that leave q, in order
unfoldable pub leaving : Automaton → ℕ → List Transition
leaving A q = filter (λ e. eqb e.from q) A.transitions

-- the transitions that are ranges
unfoldable pub ranges_of : List Transition → List Transition
ranges_of es = filter (λ e. eqb e.kind 1) es

-- an epsilon is among the transitions
unfoldable pub has_epsilon : List Transition → Bool
has_epsilon es = any (λ e. eqb e.kind 0) es

-- no transition is an epsilon
abbrev pub EpsilonFree : Automaton → Type 0
EpsilonFree A = (e : Transition) → e ∈ A.transitions → e.kind ≡ 1
