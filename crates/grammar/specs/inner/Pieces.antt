-- For inner contracts. What the answers of the pieces stand for.
use Rattle.grammar.specs.Grammar.{ReadResult, nothing, found, Mark, mark, RangeEnds, next_names}
use Rattle.std.specs.Prelude.{List, ◌∷◌, ℕ, Option, Some, None}
use Rattle.grammar.specs.declared.tokens.Cursor.{Cursor}
use Rattle.grammar.specs.declared.tokens.TextSpan.{TextSpan}
use Rattle.grammar.specs.declared.pieces.Arrow.{Arrow}

abbrev pub piece_of : Option Cursor → ReadResult Mark
piece_of (Some c) = found mark c.at
piece_of None = nothing

abbrev pub name_of : Option (TextSpan × Cursor) → ReadResult TextSpan
name_of (Some (s, c)) = found s c.at
name_of None = nothing

abbrev pub number_piece_of : Option (ℕ × Cursor) → ReadResult ℕ
number_piece_of (Some (v, c)) = found v c.at
number_piece_of None = nothing

abbrev pub range_of : Option (ℕ × ℕ × Cursor) → ReadResult RangeEnds
range_of (Some (v, w, c)) = found (record { first = v; last = w }) c.at
range_of None = nothing

abbrev pub arrow_of : Option (Arrow × Cursor) → ReadResult Arrow
arrow_of (Some (e, c)) = found e c.at
arrow_of None = nothing

-- the text t gives the names behind the first
abbrev pub accepting_of : List ℕ → Option (TextSpan × Cursor × Cursor) → ReadResult (List TextSpan)
accepting_of t (Some (s, more, c)) = found (s ∷ (next_names t more.at).items) c.at
accepting_of t None = nothing
