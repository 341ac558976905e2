-- A word that exactly one of two automata accepts shows that they do not accept the same words. Assumes nothing.
use Prim.Native.Nat.{ℕ}
use mathlib.Core.List.{List}
use mathlib.Core.Logic.{inl, inr}
use Rattle.automata.specs.Automaton.{Automaton, Word}
use Rattle.automata.specs.SameWords.{SameWords, ExactlyOne}

pub not_same : (lower upper : ℕ) (A B : Automaton) (w : List ℕ) → ExactlyOne A B w → Word lower upper w → SameWords lower upper A B → ⊥
not_same lower upper A B w (inl h) v s = h.1 ((s w v).0 h.0)
not_same lower upper A B w (inr h) v s = h.0 ((s w v).1 h.1)
