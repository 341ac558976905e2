-- The answer of `is_subautomaton`: the first sheet's faults, the second's, the first label list's, the second's, and then whether it is one.
use Rattle.std.specs.Prelude.{ℕ, Bool, List}
use Rattle.output.specs.Output.{labels_first, read_pattern}
use Rattle.refusal.specs.Answer.{Answer, given}
use Rattle.sheets.specs.Checked.{sheet_first}
use Rattle.sheets.specs.Sheet.{state_count}
use Rattle.subautomaton.specs.Inclusion.{is_subautomaton}

unfoldable pub subautomaton_answer : List ℕ → List ℕ → List ℕ → List ℕ → Answer Bool
subautomaton_answer a al b bl =
    sheet_first a (sheet_first b (labels_first (state_count a) al (labels_first (state_count b) bl (given (is_subautomaton (read_pattern a al) (read_pattern b bl))))))
