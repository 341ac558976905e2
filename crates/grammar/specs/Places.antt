-- Where the parts of a text stand, and what the text tells by their places.
use Rattle.std.specs.Prelude.{ℕ, ◌-◌, List, ◌∷◌, take, drop}
use Rattle.grammar.specs.Grammar.{TextParts, transitions, next_names}
use Rattle.grammar.specs.declared.tokens.TextSpan.{TextSpan}
use Rattle.grammar.specs.declared.text.Layout.{Layout}

-- the bytes of a name
abbrev pub spelled : List ℕ → TextSpan → List ℕ
spelled t s = take (s.end - s.start) (drop s.start t)

-- what the text tells by a layout: the text gives the transitions and the accepting names behind the first
abbrev pub told_at : List ℕ → Layout → TextParts
told_at t l = record { start = l.initial; arrows = (transitions t l.arrows.at).items; accepts = l.first ∷ (next_names t l.more.at).items }
