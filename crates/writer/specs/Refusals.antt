-- What the refusals 30, 31 and 32 say of a pattern.
use Rattle.std.specs.Prelude.{ℕ, ◌<◌, ◌⊎◌, ◌≡◌, length}
use Rattle.lists.specs.Lists.{◌∈◌}
use Rattle.automata.specs.Automaton.{Transition, accept_of}
use Rattle.output.specs.Output.{Pattern, label_of}
use Rattle.syntax.specs.Syntax.{Name}
use Rattle.writer.specs.Text.{text_size, pattern_text}
use Rattle.writer.specs.ReadBack.{WrittenState}

-- a record is an epsilon
abbrev pub SomeEpsilon : Pattern → Type 0
SomeEpsilon P = (e : Transition) × e ∈ P.automaton.transitions × (e.kind ≡ 0)

-- a written state accepts
abbrev pub SomeAccepting : Pattern → Type 0
SomeAccepting P = (q : ℕ) × WrittenState P q × (0 < accept_of P.automaton q)

-- two written labels are equal
abbrev pub EqualLabels : Pattern → Type 0
EqualLabels P = (p q : ℕ) × WrittenState P p × WrittenState P q × (p ≡ q → ⊥) × (label_of P p ≡ label_of P q)

-- a written label is no name in the grammar
abbrev pub LabelNotName : Pattern → Type 0
LabelNotName P = (q : ℕ) × WrittenState P q × (Name (label_of P q) → ⊥)

-- the text exceeds 65,536 bytes
abbrev pub TooLong : Pattern → Type 0
TooLong P = text_size < length (pattern_text P)

-- one of the three
abbrev pub Unfit : Pattern → Type 0
Unfit P = EqualLabels P ⊎ (LabelNotName P ⊎ TooLong P)
