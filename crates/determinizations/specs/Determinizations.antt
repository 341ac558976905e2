-- The determinizations of two automata, or the refusal; the conditions of 21 and 22 for one of them.
use Rattle.std.specs.Prelude.{ℕ}
use Rattle.automata.specs.Automaton.{Automaton}
use Rattle.refusal.specs.Answer.{Answer, refused, given}
use Rattle.determinize.specs.Determinize.{determinize}
use Rattle.determinize.specs.Reached.{MoreThan, MoreTransitions}
use Rattle.determinizations.specs.Two.{Two}

-- both determinizations, the first's refusals before the second's
unfoldable pub with_second : ℕ → ℕ → Automaton → Answer Automaton → Answer Two
with_second lower upper D (refused n) = refused n
with_second lower upper D (given E) = given (record { one = D; two = E; lower = lower; upper = upper })

unfoldable pub with_first : ℕ → ℕ → Answer Automaton → Answer Automaton → Answer Two
with_first lower upper (refused n) second = refused n
with_first lower upper (given D) second = with_second lower upper D second

unfoldable pub determinized : ℕ → ℕ → Automaton → Automaton → Answer Two
determinized lower upper A B = with_first lower upper (determinize lower upper A) (determinize lower upper B)

-- 22 of a determinization: it fits 256 states and has over 2,048 transitions
abbrev pub Overfull : ℕ → ℕ → Automaton → Type 0
Overfull lower upper A = (MoreThan 255 lower upper A → ⊥) × MoreTransitions 2048 lower upper A

-- a determinization fits 256 states and 2,048 transitions; the states are the nonempty sets that words reach, and the sink
abbrev pub Limits : ℕ → ℕ → Automaton → Type 0
Limits lower upper A = (MoreThan 255 lower upper A → ⊥) × (MoreTransitions 2048 lower upper A → ⊥)
