-- What pairs of states reach, with no table in it: the exact conditions of the refusals 21, 7 and 22.
use Rattle.std.specs.Prelude.{ℕ, ◌≤◌, ◌<◌, min, max, List, ◌⊎◌, ◌≡◌, length}
use Rattle.lists.specs.Lists.{◌∈◌, Distinct}
use Rattle.automata.specs.Automaton.{Transition, Automaton}
use Rattle.automata.specs.Pairs.{Pair}

-- a range of the first that leaves p and one of the second that leaves q hold the symbol a
pub record Meet (A B : Automaton) (p q : ℕ) (d e : Transition) (a : ℕ) : Type 0 where
  pub left : d ∈ A.transitions
  pub right : e ∈ B.transitions
  pub from_left : d.from ≡ p
  pub from_right : e.from ≡ q
  pub range_left : d.kind ≡ 1
  pub range_right : e.kind ≡ 1
  pub above_left : d.first ≤ a
  pub below_left : a ≤ d.last
  pub above_right : e.first ≤ a
  pub below_right : a ≤ e.last

-- the start pair is reached, and ranges that meet lead from a reached pair to another
pub data PairReached (A B : Automaton) : ℕ → ℕ → Type 0 where
  start : PairReached A B A.start B.start
  step : {p q a : ℕ} {d e : Transition} → PairReached A B p q → Meet A B p q d e a → PairReached A B d.to e.to

-- 21: more than k pairs
pub record ManyPairs (k : ℕ) (A B : Automaton) : Type 0 where
  pub pairs : List Pair
  pub distinct : Distinct pairs
  pub reached : (p : Pair) → p ∈ pairs → PairReached A B p.left p.right
  pub many : k < length pairs

-- 7: a reached pair with records on both sides, and an epsilon on at least one of them
pub record Blocked (A B : Automaton) : Type 0 where
  pub left : Transition
  pub right : Transition
  pub in_left : left ∈ A.transitions
  pub in_right : right ∈ B.transitions
  pub reached : PairReached A B left.from right.from
  pub epsilon : (left.kind ≡ 0) ⊎ (right.kind ≡ 0)

-- a transition of the product: from a reached pair, under the symbols that two ranges share, to the pair to which they lead
pub record PairTransition : Type 0 where
  pub from : Pair
  pub first : ℕ
  pub last : ℕ
  pub to : Pair

pub record Arises (A B : Automaton) (t : PairTransition) : Type 0 where
  pub symbol : ℕ
  pub by_left : Transition
  pub by_right : Transition
  pub reached : PairReached A B t.from.left t.from.right
  pub meet : Meet A B t.from.left t.from.right by_left by_right symbol
  pub first_is : t.first ≡ max by_left.first by_right.first
  pub last_is : t.last ≡ min by_left.last by_right.last
  pub to_left : t.to.left ≡ by_left.to
  pub to_right : t.to.right ≡ by_right.to

-- 22: more than k transitions, equal ones counted once
pub record ManyTransitions (k : ℕ) (A B : Automaton) : Type 0 where
  pub transitions : List PairTransition
  pub distinct : Distinct transitions
  pub arise : (t : PairTransition) → t ∈ transitions → Arises A B t
  pub many : k < length transitions
