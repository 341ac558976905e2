-- For inner contracts. What holds while pairs of states are walked. The states of the second automaton are counted behind the n1 states of the first.
use Rattle.std.specs.Prelude.{ℕ, ◌+◌, ◌<◌, ◌≤◌, Bool, true, false, Option, Some, None, List, ◌≡◌}
use Rattle.lists.specs.Lists.{◌∈◌, Ascending}
use Rattle.automata.specs.Automaton.{Transition}
use Rattle.sheets.specs.inner.Accepted.{Accepted}
use Rattle.sheets.specs.inner.Runs.{Indexed}
use Rattle.pairs.specs.inner.Pairs.{Pairs, classes, one_at, two_at, ValidPairs, PairsKept}
use Rattle.equivalence.specs.Triggers.{SameTrigger, TriggersWithin}
use Rattle.equivalence.specs.inner.Rows.{leaders, Lower}

-- two runs in order that lead to states, the second's counted behind the first's
pub record Runs (n1 n : ℕ) (ds es : List Transition) : Type 0 where
  pub first : Ascending Lower (leaders ds)
  pub second : Ascending Lower (leaders es)
  pub first_in : (d : Transition) → d ∈ ds → d.to < n
  pub second_in : (e : Transition) → e ∈ es → n1 + e.to < n

-- such runs, and valid pairs
pub record ComparableRuns (n1 : ℕ) (ds es : List Transition) (w : Pairs) : Type 0 where
  pub valid : ValidPairs n1 w
  pub runs : Runs n1 w.sets.n ds es

-- where a new pair comes from
pub record Origin (ds es : List Transition) (p q : ℕ) : Type 0 where
  pub left : Transition
  pub right : Transition
  pub in_left : left ∈ leaders ds
  pub in_right : right ∈ leaders es
  pub same : SameTrigger left right
  pub to_left : p ≡ left.to
  pub to_right : q ≡ right.to

abbrev pub NewPairsFrom : List Transition → List Transition → Pairs → Pairs → Type 0
NewPairsFrom ds es w r = (i : ℕ) → w.made ≤ i → i < r.made → Origin ds es (one_at r i) (two_at r i)

-- equal triggers of ds and es lead into one class
abbrev pub TargetsJoined : ℕ → Pairs → List Transition → List Transition → Type 0
TargetsJoined n1 w ds es = (d e : Transition) → d ∈ leaders ds → e ∈ leaders es → SameTrigger d e → classes w d.to ≡ classes w (n1 + e.to)

-- what the answer says of two runs: equal triggers, whose targets are joined, or not
abbrev pub RunsAlike : ℕ → List Transition → List Transition → Pairs → Bool → Type 0
RunsAlike n1 ds es w true = TriggersWithin ds es × TriggersWithin es ds × TargetsJoined n1 w ds es
RunsAlike n1 ds es w false = TriggersWithin ds es → TriggersWithin es ds → ⊥

-- two runs are compared: r has the pairs of w and those of the equal triggers, up to one that is lacking
pub record RunsCompared (n1 : ℕ) (ds es : List Transition) (w r : Pairs) (alike : Bool) : Type 0 where
  pub valid : ValidPairs n1 r
  pub kept : PairsKept w r
  pub new_from : NewPairsFrom ds es w r
  pub answer : RunsAlike n1 ds es r alike

-- what comparing them answers: how many pairs there are, r of so many, or None where a trigger is lacking
abbrev pub RunsAnswered : ℕ → List Transition → List Transition → Pairs → (ℕ → Pairs) → Option ℕ → Type 0
RunsAnswered n1 ds es w r (Some made) = RunsCompared n1 ds es w (r made) true
RunsAnswered n1 ds es w r None = (made : ℕ) × RunsCompared n1 ds es w (r made) false

-- two accepted sheets, and where the records of each state begin
pub record IndexedSheets (a b starts-a starts-b : List ℕ) : Type 0 where
  pub first : Accepted a
  pub second : Accepted b
  pub index_a : Indexed a starts-a
  pub index_b : Indexed b starts-b
