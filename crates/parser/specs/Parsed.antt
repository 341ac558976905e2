-- What `parse_automaton` answers and leaves in the two lent outputs.
use Rattle.std.specs.Prelude.{ℕ, List, Result, Ok, Err}
use Rattle.output.specs.Output.{Lengths, lengths_of, Outputs, stored}
use Rattle.refusal.specs.Answer.{Answer, refused, given}
use Rattle.refusal.specs.Number.{number_of}
use Rattle.refusal.specs.Outcome.{Outcome, outcome}
use Rattle.refusal.specs.declared.Refusal.{Refusal}
use Rattle.parser.specs.Pattern.{Reading}
use Rattle.parser.specs.declared.Parsed.{Parsed}

-- how many bytes were read, and what the outputs take
pub record ReadLengths : Type 0 where
  pub read : ℕ
  pub outputs : Lengths

-- what is answered of a reading
abbrev pub read_lengths_of : Reading → ReadLengths
read_lengths_of r = record { read = r.read; outputs = lengths_of r.pattern }

-- its pattern stored at the fronts of the outputs
abbrev pub stored_reading : Outputs → Reading → Outputs
stored_reading m r = stored m r.pattern

-- the outcome of an answer, where o and l are lent for the outputs
unfoldable pub parsed : List ℕ → List ℕ → Answer Reading → Outcome ReadLengths Outputs
parsed o l a = outcome read_lengths_of stored_reading (record { sheet = o; labels = l }) a

-- the outcome of a call that answers r, where o and l are the outputs afterwards
abbrev pub parsed_of : Result Parsed Refusal → List ℕ → List ℕ → Outcome ReadLengths Outputs
parsed_of (Ok p) o l = record { answer = given (record { read = p.read; outputs = record { words = p.words; bytes = p.bytes } }); memory = record { sheet = o; labels = l } }
parsed_of (Err r) o l = record { answer = refused (number_of r); memory = record { sheet = o; labels = l } }

-- document 01's number of an answer: 0 where nothing is refused
abbrev pub parsed_number : Result Parsed Refusal → ℕ
parsed_number (Ok p) = 0
parsed_number (Err r) = number_of r
