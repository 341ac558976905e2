-- The number that documents 01 and 02 give each refusal.
use Rattle.std.specs.Prelude.{ℕ}
use Rattle.refusal.specs.declared.InputRefusal.{InputRefusal}
use Rattle.refusal.specs.declared.InputRefusal.TheVariants.{SheetLength, Start, Counts, AcceptWord, Record, RecordOrder, Epsilon, Grammar, Utf8, Labels}
use Rattle.refusal.specs.declared.InputRefusal.TheVariants.{EpsilonRecord, NoAcceptingState, Names, AcceptingName, OuterMark}
use Rattle.refusal.specs.declared.StateRefusal.{StateRefusal}
use Rattle.refusal.specs.declared.StateRefusal.TheVariants.{OutputLength, States, Transitions, Element, JoinSets}
use Rattle.refusal.specs.declared.Refusal.{Refusal}
use Rattle.refusal.specs.declared.Refusal.TheVariants.{Input, State}

abbrev pub input_number : InputRefusal → ℕ
input_number SheetLength = 1
input_number Start = 2
input_number Counts = 3
input_number AcceptWord = 4
input_number Record = 5
input_number RecordOrder = 6
input_number Epsilon = 7
input_number Grammar = 8
input_number Utf8 = 9
input_number Labels = 10
input_number EpsilonRecord = 30
input_number NoAcceptingState = 31
input_number Names = 32
input_number AcceptingName = 33
input_number OuterMark = 34

abbrev pub state_number : StateRefusal → ℕ
state_number OutputLength = 20
state_number States = 21
state_number Transitions = 22
state_number Element = 23
state_number JoinSets = 24

abbrev pub number_of : Refusal → ℕ
number_of (Input i) = input_number i
number_of (State s) = state_number s
