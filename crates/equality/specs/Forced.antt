-- The states of two automata side by side, and the equivalence whose classes document 01 counts ("Equality"): the smallest that joins the
-- starts and, with two states, their successors under each symbol.
use Rattle.std.specs.Prelude.{ℕ, ◌+◌, ◌-◌, ◌<◌, cond, ltb}
use Rattle.automata.specs.Successors.{successor}
use Rattle.determinizations.specs.Two.{Two, Symbol, total_size}

-- the states of the second are numbered after those of the first
abbrev pub left : Two → ℕ → ℕ
left t p = p

abbrev pub right : Two → ℕ → ℕ
right t q = t.one.size + q

-- a state's successor and its accept word, in the automaton that it belongs to
unfoldable pub successor_in : Two → ℕ → ℕ → ℕ
successor_in t p x = cond (ltb p t.one.size) (left t (successor t.one p x)) (right t (successor t.two (p - t.one.size) x))

-- an equivalence on the states of both
pub record Equivalence (t : Two) (R : ℕ → ℕ → Type 0) : Type 0 where
  pub reflexive : (p : ℕ) → p < total_size t → R p p
  pub symmetric : (p q : ℕ) → p < total_size t → q < total_size t → R p q → R q p
  pub transitive : (p q r : ℕ) → p < total_size t → q < total_size t → r < total_size t → R p q → R q r → R p r

-- one that joins the starts and, with two states, their successors under each symbol
pub record JoinsSuccessors (t : Two) (R : ℕ → ℕ → Type 0) : Type 0 where
  pub equivalence : Equivalence t R
  pub starts : R (left t t.one.start) (right t t.two.start)
  pub follow : (p q x : ℕ) → p < total_size t → q < total_size t → Symbol t x → R p q → R (successor_in t p x) (successor_in t q x)

-- the smallest of them: it is one, and every other joins all that this one joins
pub record Smallest (t : Two) (R : ℕ → ℕ → Type 0) : Type 1 where
  pub joins : JoinsSuccessors t R
  pub least : (S : ℕ → ℕ → Type 0) → JoinsSuccessors t S → (p q : ℕ) → R p q → S p q

-- what follows from the starts; of two determinizations this is the smallest (the theorem `forced_smallest`)
pub data Forced (t : Two) : ℕ → ℕ → Type 0 where
  starts : Forced t (left t t.one.start) (right t t.two.start)
  follow : {p q : ℕ} (x : ℕ) → Symbol t x → Forced t p q → Forced t (successor_in t p x) (successor_in t q x)
  reflexive : {p : ℕ} → p < total_size t → Forced t p p
  symmetric : {p q : ℕ} → Forced t p q → Forced t q p
  transitive : {p q r : ℕ} → Forced t p q → Forced t q r → Forced t p r
