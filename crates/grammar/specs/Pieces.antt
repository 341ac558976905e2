-- The answers of the code's pieces as what the grammar finds.
use Rattle.grammar.specs.Grammar.{ReadResult, nothing, found, TextParts}
use Rattle.grammar.specs.Places.{told_at}
use Rattle.std.specs.Prelude.{List, ℕ, Option, Some, None}
use Rattle.grammar.specs.declared.tokens.Cursor.{Cursor}
use Rattle.grammar.specs.declared.text.Layout.{Layout}

abbrev pub text_of : List ℕ → Option (Layout × Cursor) → ReadResult TextParts
text_of t (Some (l, c)) = found (told_at t l) c.at
text_of t None = nothing
