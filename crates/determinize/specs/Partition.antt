-- Parts (document 01, "Determinizing"). The cuts are every first and every last plus 1; each part with a target is kept, with all its targets, and
-- parts are not merged. `lower` and `upper` are the least and the greatest symbol.
use Rattle.std.specs.Prelude.{◌≡◌, ℕ, suc, ◌<◌, ◌≤◌, true, ◌&&◌, ◌⊎◌, ◌↔◌, List, map, ◌==◌}
use Rattle.lists.specs.Lists.{◌∈◌, any, filter, Ascending}
use Rattle.automata.specs.Automaton.{Transition, holds}
use Rattle.sets.specs.Sets.{Set, has, pick}
use Rattle.ranges.specs.Span.{Span}
use Rattle.ranges.specs.Cuts.{Cut, cut_all}
use Rattle.ranges.specs.Missing.{covered}

-- the symbols from first to last, and the targets of the ranges that hold them
pub record Part : Type 0 where
  pub first : ℕ
  pub last : ℕ
  pub targets : Set

-- a span between cuts with its targets, which are states below n: a range that holds its first symbol holds all of it
unfoldable pub part_of : ℕ → List Transition → Span → Part
part_of n es s = record { first = s.first; last = s.last; targets = pick n (λ q. any (λ e. holds s.first e && e.to == q) es) }

-- the spans between cuts that some range holds, ascending
unfoldable pub partition : ℕ → ℕ → ℕ → List Transition → List Part
partition n lower upper es = map (part_of n es) (filter (covered es) (cut_all lower upper es))

-- some range holds the symbol x
abbrev pub HeldBy : List Transition → ℕ → Type 0
HeldBy es x = (e : Transition) × e ∈ es × (holds x e ≡ true)

-- and leads to q
abbrev pub HeldTo : List Transition → ℕ → ℕ → Type 0
HeldTo es x q = (e : Transition) × e ∈ es × (holds x e ≡ true) × (e.to ≡ q)

-- what document 01 says of the parts: they ascend and no two share a symbol, they are cut at every cut and nowhere else, a symbol lies in one just
-- when some range holds it, and the targets of a part are those of the ranges that hold its symbols
pub record Parts (lower upper : ℕ) (es : List Transition) (ps : List Part) : Type 0 where
  pub ascends : Ascending (λ p q. p.last < q.first) ps
  pub full : (p : Part) → p ∈ ps → p.first ≤ p.last
  pub begins : (p : Part) → p ∈ ps → (p.first ≡ lower) ⊎ Cut es p.first
  pub ends : (p : Part) → p ∈ ps → (p.last ≡ upper) ⊎ Cut es (suc p.last)
  pub uncut : (p : Part) → p ∈ ps → (c : ℕ) → Cut es c → p.first < c → p.last < c
  pub exact : (x : ℕ) → ((p : Part) × p ∈ ps × (p.first ≤ x) × (x ≤ p.last)) ↔ ((lower ≤ x) × (x ≤ upper) × HeldBy es x)
  pub targets : (p : Part) → p ∈ ps → (x : ℕ) → p.first ≤ x → x ≤ p.last → (q : ℕ) → (has q p.targets ≡ true) ↔ HeldTo es x q
