-- Two automata compared by the words that they accept.
use Rattle.std.specs.Prelude.{ℕ, List, ◌⊎◌, ◌↔◌}
use Rattle.automata.specs.Automaton.{Automaton, Accepts, Word}

-- every word of symbols from lower to upper is accepted by both or by neither
abbrev pub SameWords : ℕ → ℕ → Automaton → Automaton → Type 0
SameWords lower upper A B = (w : List ℕ) → Word lower upper w → Accepts A w ↔ Accepts B w

abbrev pub ExactlyOne : Automaton → Automaton → List ℕ → Type 0
ExactlyOne A B w = (Accepts A w × (Accepts B w → ⊥)) ⊎ ((Accepts A w → ⊥) × Accepts B w)
