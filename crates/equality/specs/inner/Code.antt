-- For inner contracts. What the functions of the walk ask and give.
use Rattle.std.specs.Prelude.{ℕ, ◌+◌, ◌≤◌, ◌<◌, Option, Some, None, List, ◌≡◌, length, get_or}
use Rattle.automata.specs.Automaton.{Transition, leaving, accept_of}
use Rattle.automata.specs.Records.{write_records}
use Rattle.automata.specs.Successors.{successor}
use Rattle.sheets.specs.inner.Runs.{Indexed}
use Rattle.sheets.specs.Sheet.{state_count, read}
use Rattle.determinizations.specs.Two.{Two}
use Rattle.determinizations.specs.inner.Sheets.{two_of, DeterministicSheets}
use Rattle.pairs.specs.inner.Pairs.{Pairs, one_at, two_at}
use Rattle.equality.specs.inner.Walking.{WalkedPairs, SuccessorsJoined}
use Rattle.equality.specs.Equality.{word_size}

-- x is a symbol from lower to upper that both transitions hold
pub record CommonSymbol (d e : Transition) (lower upper x : ℕ) : Type 0 where
  pub above : lower ≤ x
  pub below : x ≤ upper
  pub first_one : d.first ≤ x
  pub last_one : x ≤ d.last
  pub first_two : e.first ≤ x
  pub last_two : x ≤ e.last

-- such a symbol, or there is none
abbrev pub FirstOf : Transition → Transition → ℕ → ℕ → Option ℕ → Type 0
FirstOf d e lower upper (Some x) = CommonSymbol d e lower upper x
FirstOf d e lower upper None = (x : ℕ) → CommonSymbol d e lower upper x → ⊥

-- ra and rb are the runs of pair i; the successors of the pairs before it are joined
pub record ComparableRecords (a b : List ℕ) (lower upper : ℕ) (ra rb : List ℕ) (n1 i : ℕ) (w : Pairs) (l : List ℕ) : Type 0 where
  pub sheets : DeterministicSheets a b lower upper
  pub is_n1 : n1 ≡ state_count a
  pub run_a : ra ≡ write_records (leaving (read a) (one_at w i))
  pub run_b : rb ≡ write_records (leaving (read b) (two_at w i))
  pub walked : WalkedPairs (two_of a b lower upper) w l
  pub i_in : i < w.made
  pub closed : SuccessorsJoined (two_of a b lower upper) w i

-- the successors of pair i are joined, or x leads to two that differ
abbrev pub SuccessorsCompared : Two → ℕ → Pairs → List ℕ → Option ℕ → Type 0
SuccessorsCompared t i w l None = WalkedPairs t w l × (i < w.made) × SuccessorsJoined t w (i + 1)
SuccessorsCompared t i w l (Some x) = WalkedPairs t w l × (i < w.made) × (t.lower ≤ x) × (x ≤ t.upper) × (accept_of t.one (successor t.one (one_at w i) x) ≡ accept_of t.two (successor t.two (two_at w i) x) → ⊥)

-- two such sheets and a buffer for the word
pub record WalkInput (a b : List ℕ) (lower upper : ℕ) (o : List ℕ) : Type 0 where
  pub sheets : DeterministicSheets a b lower upper
  pub room : word_size ≤ length o

-- the same with the tables of both sheets, where the starts agree in acceptance
pub record StartsAgree (a b starts-a starts-b : List ℕ) (lower upper : ℕ) (o : List ℕ) : Type 0 where
  pub input : WalkInput a b lower upper o
  pub index_a : Indexed a starts-a
  pub index_b : Indexed b starts-b
  pub agree : accept_of (read a) (get_or a 1 0) ≡ accept_of (read b) (get_or b 1 0)
