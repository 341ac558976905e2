-- For inner contracts. What the code of totalizing is told by: spans as pairs of words, records and holes that can be merged, and accept words.
use Rattle.std.specs.Prelude.{ℕ, suc, ◌+◌, ◌*◌, ◌≤◌, ◌<◌, Bool, true, false, cond, List, [], ◌∷◌, ◌++◌, map, ◌≡◌, leb, length, get_or}
use Rattle.lists.specs.Lists.{◌∈◌, Ascending}
use Rattle.automata.specs.Automaton.{Transition, Automaton, ranges_of}
use Rattle.automata.specs.Ordered.{in_order}
use Rattle.automata.specs.Records.{read_records}
use Rattle.automata.specs.WellFormed.{Before}
use Rattle.nondeterminism.specs.Nondeterminism.{holes_of}
use Rattle.ranges.specs.Missing.{SortedRanges}
use Rattle.ranges.specs.Span.{Span}
use Rattle.sheets.specs.Sheet.{state_count, read}
use Rattle.totality.specs.Totality.{hole_to, transition_count, other_word, flipped}
use Rattle.output.specs.Output.{sheet_size}

-- the spans of a list of words; a word left over is none
unfoldable pub read_spans : List ℕ → List Span
read_spans [] = []
read_spans (a ∷ []) = []
read_spans (a ∷ b ∷ ws) = record { first = a; last = b } ∷ read_spans ws

-- how many transitions, from the first on, come before a hole that begins at `first`
unfoldable pub leading : ℕ → List Transition → ℕ
leading first [] = 0
leading first (e ∷ es) = cond (leb e.first first) (suc (leading first es)) 0

-- transitions in order, and holes in order, whose firsts tell which comes first
pub record Mergeable (sink q : ℕ) (es : List Transition) (hs : List Span) : Type 0 where
  pub records : Ascending Before es
  pub holes : Ascending Before (map (hole_to sink q) hs)
  pub later : (e : Transition) (h : Span) → e ∈ es → h ∈ hs → h.first < e.first → Before (hole_to sink q h) e
  pub sooner : (e : Transition) (h : Span) → e ∈ es → h ∈ hs → e.first ≤ h.first → Before e (hole_to sink q h)

-- the records of a run of the state q and the spans of holes, led to the sink, in order
unfoldable pub merged : ℕ → ℕ → List ℕ → List ℕ → List Transition
merged sink q run holes = in_order (read_records run ++ map (hole_to sink q) (read_spans holes))

-- the words are those of whole records
abbrev pub WholeRecords : List ℕ → Type 0
WholeRecords s = length s ≡ 5 * length (read_records s)

-- a run of the state q whose holes can be found and merged, and room for them
pub record Fillable (lower upper sink q : ℕ) (run holes : List ℕ) : Type 0 where
  pub sorted : SortedRanges (ranges_of (read_records run))
  pub mergeable : Mergeable sink q (read_records run) (holes_of lower upper (read_records run))
  pub whole : WholeRecords run
  pub room : 2 * length run + 10 ≤ 5 * length holes

-- the accept word that is written for x
abbrev pub flipped_word_if : Bool → ℕ → ℕ
flipped_word_if true x = other_word x
flipped_word_if false x = x

-- A, or A with its acceptance flipped
abbrev pub flipped_if : Bool → Automaton → Automaton
flipped_if true A = flipped A
flipped_if false A = A

-- the front of a sheet of n states, up to the accept words of s
unfoldable pub head_words : Bool → List ℕ → ℕ → List ℕ
head_words flip s n = 1 ∷ get_or s 1 0 ∷ n ∷ map (flipped_word_if flip) (read s).accept

-- the front of the totalized sheet, up to the count of its transitions
unfoldable pub front_words : Bool → List ℕ → ℕ → List ℕ
front_words flip s count = head_words flip s (state_count s + 1) ++ flipped_word_if flip 0 ∷ count ∷ []

-- the totalized sheet has that many transitions, and there is room for it
pub record TotalizedRoom (lower upper : ℕ) (s out : List ℕ) (count : ℕ) : Type 0 where
  pub few_states : state_count s < 256
  pub few_transitions_lem : count ≤ 2048
  pub counted : count ≡ transition_count lower upper (read s)
  pub room : sheet_size ≤ length out
