-- The answer of the code as the model's.
use Rattle.std.specs.Prelude.{List, ℕ, Result, Ok, Err}
use Rattle.refusal.specs.Answer.{refused, given}
use Rattle.refusal.specs.Number.{number_of}
use Rattle.refusal.specs.declared.Refusal.{Refusal}
use Rattle.refusal.specs.Outcome.{Outcome}
use Rattle.output.specs.Output.{Outputs}
use Rattle.output.specs.Output as output
use Rattle.output.specs.declared.Made.{Made}

-- the outcome of a call that answers r, where o and l are the outputs afterwards
abbrev pub output_of : Result Made Refusal → List ℕ → List ℕ → Outcome output.Lengths Outputs
output_of (Ok m) o l = record { answer = given (record { words = m.words; bytes = m.bytes }); memory = record { sheet = o; labels = l } }
output_of (Err r) o l = record { answer = refused (number_of r); memory = record { sheet = o; labels = l } }
