-- Demand 3 in the words of the C functions. `ComparedSheets` and `Crossing` are what it supposes: each field is a call by its contract, a lent length, or a
-- limit that demand 3 names, and each next call is lent the front of what the last one wrote. `Demanded` is what it asks.
use Rattle.std.specs.Prelude.{ℕ, ◌+◌, ◌≤◌, List, ◌⊎◌, ◌↔◌, ◌≡◌}
use Rattle.automata.specs.Automaton.{Automaton}
use Rattle.automata.specs.WellFormed.{most_states, most_transitions, last_symbol}
use Rattle.automata.specs.SameWords.{SameWords}
use Rattle.determinize.specs.Determinize.{determinize}
use Rattle.determinizations.specs.Two.{Two, total_size}
use Rattle.determinizations.specs.Determinizations.{Limits}
use Rattle.dsu.specs.Classes.{Classes}
use Rattle.equality.specs.Equality.{word_size, Differs}
use Rattle.equality.specs.Forced.{Forced, Smallest}
use Rattle.product.specs.Reached.{ManyPairs, ManyTransitions}
use Rattle.refusal.specs.Answer.{given}
use Rattle.sheets.specs.Fault.{fault}
use Rattle.sheets.specs.Sheet.{read}
use Rattle.totality.specs.Totality.{complemented}
use Rattle.crossed.specs.Calls.{Difference, EqualityCall, OutputsMemory, sheet_of, labels_of, DeterminizeCall, ComplementCall, IntersectionCall, Question, ReachableCall}

-- any two accepted automata whose determinizations fit, compared
pub record ComparedSheets (a b : List ℕ) : Type 0 where
  -- a and b are accepted sheets: epsilons, overlaps and gaps allowed
  pub accepted_a : fault a ≡ 0
  pub accepted_b : fault b ≡ 0
  -- their determinizations fit 256 states and 2,048 transitions each
  pub limits_a : Limits 0 last_symbol (read a)
  pub limits_b : Limits 0 last_symbol (read b)
  -- ringmatch_equality, with 510 words or more lent for the difference word
  pub memory : Difference
  pub call : EqualityCall a b memory

-- the sheet s determinized, and the complement of that
pub record Side (s : List ℕ) : Type 0 where
  -- ringmatch_determinize
  pub determinization : OutputsMemory
  pub determinizes : DeterminizeCall s determinization
  -- ringmatch_complement of the sheet and the labels that this wrote
  pub complement : OutputsMemory
  pub complements : ComplementCall (sheet_of determinization) (labels_of determinization) complement

-- a product fits 256 states and 2,048 transitions
abbrev pub Fit : Automaton → Automaton → Type 0
Fit A B = (ManyPairs most_states A B → ⊥) × (ManyTransitions most_transitions A B → ⊥)

-- the sheets s and t, whose product fits, multiplied, and the product asked whether it is empty
pub record Product (s t : List ℕ) : Type 0 where
  pub fits : Fit (read s) (read t)
  -- ringmatch_intersection
  pub product : OutputsMemory
  pub intersects : IntersectionCall s t product
  -- ringmatch_has_reachable_accepting_state of the sheet that this wrote
  pub question : Question
  pub asks : ReachableCall (sheet_of product) question

-- each determinization's product with the other determinization's complement
pub record Crossing (a b : List ℕ) : Type 0 where
  pub one : Side a
  pub two : Side b
  pub first : Product (sheet_of one.determinization) (sheet_of two.complement)
  pub second : Product (sheet_of two.determinization) (sheet_of one.complement)

-- both calls answer 0, and what they wrote reads as the automaton D and as its complement
pub record SideAnswers (D : Automaton) {s : List ℕ} (x : Side s) : Type 0 where
  pub determinize_code : x.determinization.after.code ≡ 0
  pub determinization : read (sheet_of x.determinization) ≡ D
  pub complement_code : x.complement.after.code ≡ 0
  pub complement : read (sheet_of x.complement) ≡ complemented 0 last_symbol D

-- both calls answer 0
pub record ProductAnswers {s t : List ℕ} (x : Product s t) : Type 0 where
  pub product_code : x.product.after.code ≡ 0
  pub question_code : x.question.after.code ≡ 0

-- the product is empty: no accepting state is reached
abbrev pub Empty : {s t : List ℕ} → Product s t → Type 0
Empty x = x.question.after.cells ≡ 0

-- two automata side by side over the symbols of u32
abbrev pub beside : Automaton → Automaton → Two
beside D E = record { one = D; two = E; lower = 0; upper = last_symbol }

-- every word of u32 symbols is accepted by both sheets or by neither
abbrev pub EqualWords : List ℕ → List ℕ → Type 0
EqualWords a b = SameWords 0 last_symbol (read a) (read b)

-- the products of each determinization with the other's complement
pub record Crossed {a b : List ℕ} (c : ComparedSheets a b) (x : Crossing a b) : Type 0 where
  pub first : ProductAnswers x.first
  pub second : ProductAnswers x.second
  -- both are empty exactly where the sheets accept the same words, which is where they are reported equal
  pub words : (Empty x.first × Empty x.second) ↔ EqualWords a b
  pub reported : (Empty x.first × Empty x.second) ↔ (c.memory.after.cells.same ≡ 1)

-- the report in the memory m of `ringmatch_equality` on the sheets a and b, whose determinizations are those of t
pub record Report (a b : List ℕ) (t : Two) (m : Difference) : Type 0 where
  -- nothing is refused: the sheets are reported equal or different
  pub code : m.after.code ≡ 0
  pub either : (m.after.cells.same ≡ 1) ⊎ (m.after.cells.same ≡ 0)
  -- equal exactly when every finite word of u32 symbols is accepted by both or by neither
  pub equal : (m.after.cells.same ≡ 1) ↔ EqualWords a b
  -- otherwise different, with a word that exactly one of the two accepts; its symbols number at most the states of both determinizations less 2,
  -- so 510, and nothing behind it is written
  pub different : (m.after.cells.same ≡ 0) ↔ (EqualWords a b → ⊥)
  pub word : m.after.cells.same ≡ 0 → Differs 0 last_symbol (read a) (read b) (total_size t) m.word m.after.memory m.after.cells.number
  pub most : m.after.cells.same ≡ 0 → m.after.cells.number ≤ word_size
  -- an equal report carries the joins, which are the states of both determinizations less the classes; nothing is written into the lent word
  pub joins : m.after.cells.same ≡ 1 → (classes : ℕ) × Classes (Forced t) (total_size t) classes × (m.after.cells.number + classes ≡ total_size t)
  pub kept : m.after.cells.same ≡ 1 → m.after.memory ≡ m.word

-- what demand 3 asks of the comparison c
pub record Demanded {a b : List ℕ} (c : ComparedSheets a b) : Type 1 where
  -- the two determinizations, as document 01 defines them
  pub one : Automaton
  pub two : Automaton
  pub first : determinize 0 last_symbol (read a) ≡ given one
  pub second : determinize 0 last_symbol (read b) ≡ given two
  -- the report
  pub report : Report a b (beside one two) c.memory
  -- its classes are those of document 01: of the smallest equivalence that joins the starts and, with two states, their successors under each symbol
  pub smallest : Smallest (beside one two) (Forced (beside one two))
  -- where outputs of document 01's sizes are lent, the determinizations and their complements are written;
  pub side_a : (x : Side a) → SideAnswers one x
  pub side_b : (x : Side b) → SideAnswers two x
  -- and where each determinization's product with the other determinization's complement fits too, both products are empty exactly in the equal case
  pub crossed : (x : Crossing a b) → Crossed c x
