-- Acceptance of words and of text (document 01, "Closures and words").
-- The answer is a refusal's number, or the accept word that the states at the word's end give: 0 where it is not accepted.
use Rattle.std.specs.Prelude.{ℕ, List, Result, Ok, Err}
use Rattle.refusal.specs.declared.InputRefusal.{InputRefusal}
use Rattle.refusal.specs.Answer.{Answer, refused, given}
use Rattle.refusal.specs.Number.{input_number}
use Rattle.sheets.specs.Checked.{sheet_first}
use Rattle.sheets.specs.Sheet.{read}
use Rattle.utf8.specs.Utf8.{Decoded, malformed, points, decode}
use Rattle.words.specs.Simulation.{kind}

-- a word is answered with its accept word
unfoldable pub accepts_words_answer : List ℕ → List ℕ → Answer ℕ
accepts_words_answer s w = sheet_first s (given (kind (read s) w))

-- 9 where a text is malformed, or else the answer for the word of its code points
abbrev pub decoded_first : {X : Type 0} → Decoded → (List ℕ → Answer X) → Answer X
decoded_first malformed a = refused 9
decoded_first (points w) a = a w

-- a text stands for the word of its code points
unfoldable pub accepts_text_answer : List ℕ → List ℕ → Answer ℕ
accepts_text_answer s t = sheet_first s (decoded_first (decode t) (λ w. given (kind (read s) w)))

-- the answer that a value of the code stands for
abbrev pub acceptance_of : Result ℕ InputRefusal → Answer ℕ
acceptance_of (Ok k) = given k
acceptance_of (Err r) = refused (input_number r)

-- document 01's number of an answer: 0 where nothing is refused
abbrev pub acceptance_number : Result ℕ InputRefusal → ℕ
acceptance_number (Ok k) = 0
acceptance_number (Err r) = input_number r
