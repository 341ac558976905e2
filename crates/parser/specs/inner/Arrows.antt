-- For inner contracts. The transitions of a text as they are read: the names that were met are in the table, and the records between their numbers in
-- lent memory.
use Rattle.std.specs.Prelude.{ℕ, ◌*◌, ◌/◌, ◌≤◌, ◌<◌, List, [], ◌∷◌, ◌++◌, map, ◌≡◌, length, Option, Some, None}
use Rattle.automata.specs.Automaton.{Transition}
use Rattle.automata.specs.Ordered.{in_order}
use Rattle.grammar.specs.Grammar.{transitions}
use Rattle.labels.specs.Labels.{same_label}
use Rattle.output.specs.declared.gathering.Filled.{Filled}
use Rattle.output.specs.inner.Gathering.{Held, Gathered, Rest}
use Rattle.output.specs.inner.Ordered.{records_in}
use Rattle.search.specs.Search.{index, add, meet}
use Rattle.syntax.specs.Syntax.{Move}
use Rattle.parser.specs.Pattern.{both_names, names_of, transition_of_move}
use Rattle.parser.specs.inner.Names.{SpeltTable, names_in, SpeltAddition}
use Rattle.parser.specs.inner.Places.{moves_at}
use Rattle.parser.specs.declared.arrows.Arrows.{Arrows}
use Rattle.parser.specs.declared.arrows.Begun.{Begun}
use Rattle.parser.specs.declared.arrows.Begun.TheVariants.{Ended, Stopped}
use Rattle.parser.specs.declared.arrows.Stop.{Stop}
use Rattle.parser.specs.declared.arrows.Entry.{Entry}
use Rattle.parser.specs.declared.arrows.Noted.{Noted}

-- the n names of the table t are ls and x, and i is the number of x
pub record Entered (text x : List ℕ) (ls : List (List ℕ)) (t : List ℕ) (i n : ℕ) : Type 0 where
  pub table : SpeltTable text t n
  pub names : names_in text t n ≡ add same_label x ls
  pub number : i ≡ index same_label x (add same_label x ls)

-- so by the answer, or ls and x are over 256
abbrev pub Entering : List ℕ → List ℕ → List (List ℕ) → List ℕ → Option Entry → Type 0
Entering text x ls t (Some e) = Entered text x ls t e.number e.count
Entering text x ls t None = 256 < length (add same_label x ls)

-- the records with which new is filled are those of old and e, or they are too many
pub record Noting (old : List ℕ) (f : Filled) (e : Transition) (new : List ℕ) (g : Filled) : Type 0 where
  pub long : length new ≡ length old
  pub held : Held new g.sorted g.end
  pub more : f.end < length old → Gathered new g.sorted g.end (records_in old 0 f.end ++ e ∷ [])
  pub over : length old ≤ f.end → length new ≤ g.end

-- the n names of the table t are ls and those of the transition m, whose record is with the others
pub record ArrowNoted (text : List ℕ) (m : Move) (ls : List (List ℕ)) (t old : List ℕ) (f : Filled) (new : List ℕ) (n : ℕ) (g : Filled) : Type 0 where
  pub table : SpeltTable text t n
  pub names : names_in text t n ≡ meet same_label (both_names m) ls
  pub noting : Noting old f (transition_of_move (names_in text t n) m) new g

-- so by the answer, or the names are over 256
abbrev pub ArrowNoting : List ℕ → Move → List (List ℕ) → List ℕ → List ℕ → Filled → List ℕ → Option Noted → Type 0
ArrowNoting text m ls t old f new (Some r) = ArrowNoted text m ls t old f new r.count r.filled
ArrowNoting text m ls t old f new None = 256 < length (meet same_label (both_names m) ls)

-- all names, where ls come before those of the transitions from a place on
unfoldable pub all_names : List ℕ → ℕ → List (List ℕ) → List (List ℕ)
all_names text at ls = meet same_label (names_of (moves_at text at)) ls

-- the transitions from a place on between the numbers of these names
unfoldable pub numbered_transitions : List ℕ → ℕ → List (List ℕ) → List Transition
numbered_transitions text at ls = map (transition_of_move ls) (moves_at text at)

-- the transitions from start on, with the names ls before theirs, are read up to the place at: what is left of them gives all names with those of the
-- table, and all records with those in memory, unless these are too many
pub record ReadInvariant (text : List ℕ) (start : ℕ) (ls : List (List ℕ)) (t buf : List ℕ) (at n : ℕ) (f : Filled) : Type 0 where
  pub table : SpeltTable text t n
  pub place : (transitions text at).behind ≡ (transitions text start).behind
  pub names : all_names text at (names_in text t n) ≡ all_names text start ls
  pub held : Held buf f.sorted f.end
  pub left : f.end < length buf → Rest buf f.sorted f.end (numbered_transitions text at (all_names text start ls)) (numbered_transitions text start (all_names text start ls))
  pub over : length buf ≤ f.end → length buf / 9 * 8 / 5 < length (in_order (numbered_transitions text start (all_names text start ls)))

-- the records take at most eight ninths of the memory, unless it is the largest
pub record Fitting (buf : List ℕ) (f : Filled) : Type 0 where
  pub short : length buf < 11520 → f.end ≤ length buf / 9 * 8

-- the transitions from a place on were read, with the names ls before theirs
pub record ArrowsRead (text : List ℕ) (at : ℕ) (ls : List (List ℕ)) (t buf : List ℕ) (r : Arrows) : Type 0 where
  pub behind : r.behind.at ≡ (transitions text at).behind
  pub names : SpeltAddition text (meet same_label (names_of (moves_at text at)) ls) t r.added
  pub gathered : (n : ℕ) → r.added ≡ Some n → Gathered buf r.filled.sorted r.filled.end (map (transition_of_move (names_in text t n)) (moves_at text at))
  pub fitting : (n : ℕ) → r.added ≡ Some n → Fitting buf r.filled

-- so far, and the memory has room
pub record StoppedAt (text : List ℕ) (at : ℕ) (ls : List (List ℕ)) (t buf : List ℕ) (s : Stop) : Type 0 where
  pub going : ReadInvariant text at ls t buf s.cursor.at s.count s.filled
  pub room : s.filled.end < length buf

-- by the answer of the small memory
abbrev pub Beginning : List ℕ → ℕ → List (List ℕ) → List ℕ → List ℕ → Begun → Type 0
Beginning text at ls t buf (Ended r) = ArrowsRead text at ls t buf r
Beginning text at ls t buf (Stopped s) = StoppedAt text at ls t buf s

-- whatever was read up to a place with t and buf is read to its end with u and new
pub record Continuing (text t buf : List ℕ) (at n : ℕ) (f : Filled) (u new : List ℕ) (r : Arrows) : Type 0 where
  pub all : (start : ℕ) (ls : List (List ℕ)) → ReadInvariant text start ls t buf at n f → ArrowsRead text start ls u new r
