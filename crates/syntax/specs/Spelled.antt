-- What the reader found in a text by places, as what a text says.
use Rattle.std.specs.Prelude.{ℕ, List, map}
use Rattle.grammar.specs.Grammar.{TextParts}
use Rattle.grammar.specs.Places.{spelled}
use Rattle.grammar.specs.declared.pieces.Arrow.{Arrow}
use Rattle.syntax.specs.Syntax.{Move, Said}

-- a transition whose names stand in t
abbrev pub spell_move : List ℕ → Arrow → Move
spell_move t e = record { from = spelled t e.from; to = spelled t e.to; first = e.first; last = e.last }

-- all that was found in t
unfoldable pub spell : List ℕ → TextParts → Said
spell t g = record { start = spelled t g.start; moves = map (spell_move t) g.arrows; accepts = map (spelled t) g.accepts }
