-- The code's answer to a question, as the model's.
use Rattle.std.specs.Prelude.{Bool, Result, Ok, Err}
use Rattle.refusal.specs.declared.InputRefusal.{InputRefusal}
use Rattle.refusal.specs.Answer.{Answer, refused, given}
use Rattle.refusal.specs.Number.{input_number}

abbrev pub decision_of : Result Bool InputRefusal → Answer Bool
decision_of (Ok b) = given b
decision_of (Err r) = refused (input_number r)
