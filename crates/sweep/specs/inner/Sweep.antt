-- For inner contracts. One ascending pass over two lists of events, the openings and the endings of the ranges that leave a set of states. For each target the pass
-- keeps its reach, the end of the longest range to it that has opened: the target is live while its reach is above the symbol.
use Rattle.std.specs.Prelude.{ℕ, suc, ◌+◌, ◌≤◌, ◌<◌, true, List, [], ◌⊎◌, ◌≡◌, get_or}
use Rattle.lists.specs.Lists.{◌∈◌, Ascending}
use Rattle.automata.specs.Automaton.{Transition}
use Rattle.sets.specs.Sets.{Set, has}
use Rattle.sweep.specs.inner.Events.{event}

-- the event is one of a range that leaves a state of S
abbrev pub Mine : Set → Transition → Type 0
Mine S v = has v.first S ≡ true

abbrev pub Rises : List Transition → Type 0
Rises W = Ascending (λ v w. v.from ≤ w.from) W

-- W has, in order, the events of the ranges es, and no others whose state is in S
pub record Timeline (k : ℕ) (es : List Transition) (S : Set) (W : List Transition) : Type 0 where
  pub rises : Rises W
  pub mine : (e : Transition) → e ∈ es → has e.from S ≡ true
  pub has_all : (e : Transition) → e ∈ es → (i : ℕ) × (event k i e ∈ W)
  pub only : (v : Transition) → v ∈ W → Mine S v → (e : Transition) × e ∈ es × (i : ℕ) × (v ≡ event k i e)
  pub states : (v : Transition) → v ∈ W → v.first < 256
  pub targets : (v : Transition) → v ∈ W → v.to < 256

-- the events R of W are left, and P holds of the others of S
pub record Swept (P : Transition → Type 0) (S : Set) (W R : List Transition) : Type 0 where
  pub rises : Rises R
  pub inside : (v : Transition) → v ∈ R → v ∈ W
  pub passed : (v : Transition) → v ∈ W → Mine S v → (v ∈ R) ⊎ P v

-- an opening up to a is noted: the target's reach is above the range's last symbol, or the range has ended before a
pub record Taken (a : ℕ) (r : List ℕ) (v : Transition) : Type 0 where
  pub before : v.from ≤ a
  pub noted : (v.last < get_or r v.to 0) ⊎ (v.last < a)

-- an ending lies up to a
abbrev pub Gone : ℕ → Transition → Type 0
Gone a v = v.from < a

-- a range to q that has opened up to a and holds x or ends behind it
pub record Opened (S : Set) (U : List Transition) (a q x : ℕ) : Type 0 where
  pub event : Transition
  pub there : event ∈ U
  pub mine : Mine S event
  pub target : event.to ≡ q
  pub below : event.from ≤ a
  pub through : x ≤ event.last

-- the ending of a range to q, at the target's reach, is left
pub record Ending (S : Set) (R : List Transition) (r : List ℕ) (q : ℕ) : Type 0 where
  pub event : Transition
  pub there : event ∈ R
  pub mine : Mine S event
  pub target : event.to ≡ q
  pub end : suc event.from ≡ get_or r q 0

-- the pass over the openings U and the endings W of the ranges es, at the symbol a, with Q and R left: r has the reach of each target, 0 where no range to it has
-- opened; the set L q of a live target q is C q, and that of another is empty or its ending is left
pub record Passes (es : List Transition) (S : Set) (U W Q R : List Transition) (a : ℕ) (r : List ℕ) (C L : ℕ → Set) : Type 0 where
  pub opening : Timeline 0 es S U
  pub ending : Timeline 1 es S W
  pub opened : Swept (Taken a r) S U Q
  pub ended : Swept (Gone a) S W R
  pub made : (q x : ℕ) → x < get_or r q 0 → Opened S U a q x
  pub live : (q : ℕ) → q < 256 → a < get_or r q 0 → L q ≡ C q
  pub dead : (q : ℕ) → q < 256 → (L q ≡ []) ⊎ Ending S R r q

-- the events of S that are left lie above a, at their symbol plus k
abbrev pub Ahead : ℕ → Set → List Transition → ℕ → Type 0
Ahead k S R a = (v : Transition) → v ∈ R → Mine S v → a < v.from + k
