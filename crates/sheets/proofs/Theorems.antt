-- What is proved of sheets:
--   sheet_exact: a sheet has no fault exactly when it is the writing of a well-formed automaton that fits
--   accepted_exact: `Accepted` says just that a sheet has no fault
--   read_well, read_fits: a sheet without a fault reads as a well-formed automaton that fits
--   write_read_sheet, read_write_sheet: each of reading and writing undoes the other
--   write_accepted: a well-formed automaton that fits is written as a sheet without a fault
use Prim.Native.Nat.{ℕ}
use mathlib.Core.List.{List}
use mathlib.Core.Logic.{◌↔◌}
use mathlib.Core.Path.{◌≡◌, sym, ap, ◌∙◌}
use lib.ListN.{length}
use Rattle.automata.specs.Automaton.{Automaton}
use Rattle.automata.specs.WellFormed.{WellFormed, Fits}
use Rattle.sheets.specs.inner.Accepted.{Accepted}
use Rattle.sheets.specs.Fault.{fault}
use Rattle.sheets.specs.Sheet.{read, write}
use Rattle.sheets.proofs.Accepted.{accepted}
use Rattle.sheets.proofs.Meaning

-- a sheet without a fault reads as a well-formed automaton
pub read_well : (s : List ℕ) → fault s ≡ 0 → WellFormed (read s)
read_well s f = Meaning.read_well s (accepted s f)

-- of at most 256 states and 2,048 transitions
pub read_fits : (s : List ℕ) → fault s ≡ 0 → Fits (read s)
read_fits s f = Meaning.read_fits s (accepted s f)

-- which is written as the same sheet
pub write_read_sheet : (s : List ℕ) → fault s ≡ 0 → write (read s) ≡ s
write_read_sheet s f = Meaning.write_read_sheet s (accepted s f)

-- an automaton with an accept word for each state is read from what is written of it
pub read_write_sheet : (A : Automaton) → length A.accept ≡ A.size → read (write A) ≡ A
read_write_sheet = Meaning.read_write_sheet

-- a well-formed automaton that fits is written without a fault
pub write_accepted : (A : Automaton) → WellFormed A → Fits A → fault (write A) ≡ 0
write_accepted = Meaning.write_accepted

-- a sheet has no fault exactly when it is the writing of a well-formed automaton that fits
pub sheet_exact : (s : List ℕ) → (fault s ≡ 0) ↔ ((A : Automaton) × WellFormed A × Fits A × (s ≡ write A))
sheet_exact s = (
  λ f. (read s, read_well s f, read_fits s f, sym (write_read_sheet s f)),
  λ (A, w, f, e). ap fault e ∙ write_accepted A w f,
)

-- the facts of `Accepted` hold exactly of a sheet without a fault
pub accepted_exact : (s : List ℕ) → Accepted s ↔ (fault s ≡ 0)
accepted_exact s = (
  λ a. (sheet_exact s).1 (read s, Meaning.read_well s a, Meaning.read_fits s a, sym (Meaning.write_read_sheet s a)),
  accepted s,
)
