-- Accepting names that are no states (document 02, M-101), and what the original makes of a text, which drops them.
use Rattle.std.specs.Prelude.{ℕ, List}
use Rattle.grammar.specs.Grammar.{whole_text}
use Rattle.lists.specs.Lists.{◌∈◌}
use Rattle.output.specs.Output.{room_first}
use Rattle.refusal.specs.Answer.{Answer}
use Rattle.syntax.specs.Syntax.{Said}
use Rattle.syntax.specs.Spelled.{spell}
use Rattle.parser.specs.Pattern.{states_of, Reading, within_limits, text_first}

-- some accepting name is no state
abbrev pub Misspelt : Said → Type 0
Misspelt s = (a : List ℕ) × a ∈ s.accepts × (a ∈ states_of s → ⊥)

-- what is answered where accepting names that are no states are dropped
unfoldable pub dropping_answer : List ℕ → List ℕ → List ℕ → Answer Reading
dropping_answer t o l = room_first o l (text_first (whole_text t) (λ g n. within_limits (spell t g) n))
