-- What `write_automaton` answers and leaves in the lent buffer.
use Rattle.std.specs.Prelude.{ℕ, List, Result, Ok, Err}
use Rattle.refusal.specs.Answer.{refused, given}
use Rattle.refusal.specs.Number.{number_of}
use Rattle.refusal.specs.Outcome.{Outcome}
use Rattle.refusal.specs.declared.Refusal.{Refusal}

-- the outcome of a call that answers r, where o is the buffer afterwards
abbrev pub wrote_of : Result ℕ Refusal → List ℕ → Outcome ℕ (List ℕ)
wrote_of (Ok n) o = record { answer = given n; memory = o }
wrote_of (Err r) o = record { answer = refused (number_of r); memory = o }
