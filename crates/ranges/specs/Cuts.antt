-- Spans between cuts (document 01, "Determinizing"): the cuts are every first and every last plus 1. `lower` and `upper` are the least and the greatest symbol.
use Rattle.std.specs.Prelude.{ℕ, zero, suc, ◌-◌, cond, List, [], ◌∷◌, ◌⊎◌, ◌≡◌, ltb}
use Rattle.lists.specs.Lists.{◌∈◌}
use Rattle.automata.specs.Automaton.{Transition}
use Rattle.ranges.specs.Span.{Span}

-- every first and every last plus 1
abbrev pub Cut : List Transition → ℕ → Type 0
Cut es c = (e : Transition) × e ∈ es × ((c ≡ e.first) ⊎ (c ≡ suc e.last))

-- the lesser of the cut found so far and c, which counts only above a
unfoldable pub nearer : ℕ → ℕ → ℕ → ℕ
nearer a c found = cond (ltb a c) (cond (ltb c found) c found) found

-- the least of `top` and the cuts above a
unfoldable pub next_cut : ℕ → ℕ → List Transition → ℕ
next_cut a top [] = top
next_cut a top (e ∷ es) = next_cut a (nearer a e.first (nearer a (suc e.last) top)) es

-- the spans between cuts from a up to and without top, ascending; n is at least their number
unfoldable pub spans : ℕ → ℕ → ℕ → List Transition → List Span
spans zero a top es = []
spans (suc n) a top es =
    let more : List Span = record { first = a; last = next_cut a top es - 1 } ∷ spans n (next_cut a top es) top es in
    cond (ltb a top) more []

-- the spans between cuts from lower to upper
unfoldable pub cut_all : ℕ → ℕ → List Transition → List Span
cut_all lower upper es = spans (suc upper - lower) lower (suc upper) es
