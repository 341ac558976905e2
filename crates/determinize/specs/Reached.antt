-- What words reach, with no queue in it: the exact conditions of the refusals 21 and 22.
use Rattle.std.specs.Prelude.{◌≡◌, ℕ, ◌+◌, ◌<◌, List, [], ◌∷◌, length, ◌≢◌}
use Rattle.lists.specs.Lists.{◌∈◌, Distinct}
use Rattle.automata.specs.Automaton.{Automaton, Word}
use Rattle.sets.specs.Sets.{Set}
use Rattle.words.specs.Simulation.{outgoing, simulate, start_set}
use Rattle.ranges.specs.Missing.{missing}
use Rattle.determinize.specs.Partition.{partition}

-- some word of symbols from lower to upper leads from the start's closure to S
abbrev pub SetReached : ℕ → ℕ → Automaton → Set → Type 0
SetReached lower upper A S = (w : List ℕ) × Word lower upper w × (simulate A (start_set A) w ≡ S)

-- sets that are distinct, nonempty and reached
pub record ReachedSets (lower upper : ℕ) (A : Automaton) (T : List Set) : Type 0 where
  pub distinct : Distinct T
  pub nonempty : (S : Set) → S ∈ T → S ≢ []
  pub reached : (S : Set) → S ∈ T → SetReached lower upper A S

-- 21: more than k of them
abbrev pub MoreThan : ℕ → ℕ → ℕ → Automaton → Type 0
MoreThan k lower upper A = (T : List Set) × ReachedSets lower upper A T × (k < length T)

-- all of them
pub record AllReached (lower upper : ℕ) (A : Automaton) (T : List Set) : Type 0 where
  pub good : ReachedSets lower upper A T
  pub whole : (S : Set) → SetReached lower upper A S → (S ≢ []) → S ∈ T

-- the parts and the holes of the sets, each of which has one transition in the result
unfoldable pub degrees : ℕ → ℕ → Automaton → List Set → ℕ
degrees lower upper A [] = 0
degrees lower upper A (S ∷ T) =
    length (partition A.size lower upper (outgoing A S)) + length (missing lower upper (outgoing A S)) + degrees lower upper A T

-- 22: with the sink's loop there are more than k transitions
abbrev pub MoreTransitions : ℕ → ℕ → ℕ → Automaton → Type 0
MoreTransitions k lower upper A = (T : List Set) × AllReached lower upper A T × (k < degrees lower upper A T + 1)
