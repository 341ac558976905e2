-- For inner contracts. What is read: a word or a text.
use Rattle.std.specs.Prelude.{ℕ, List, ◌≡◌, true}
use Rattle.utf8.specs.Utf8.{decode}
use Rattle.utf8.specs.inner.Steps.{wellformed}
use Rattle.words.specs.declared.Input.{Input}
use Rattle.words.specs.declared.Input.TheVariants.{Word, Text}
use Rattle.words.specs.inner.Acceptance.{points_of}

-- the symbols of a word, and the code points of a text
abbrev pub symbols_of : Input → List ℕ
symbols_of (Word w) = w.now
symbols_of (Text t) = points_of (decode t.now)

-- a text is not malformed
abbrev pub IsWellformed : Input → Type 0
IsWellformed (Word w) = Unit {0}
IsWellformed (Text t) = wellformed t.now ≡ true
