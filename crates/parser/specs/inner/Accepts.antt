-- For inner contracts. The accept words that the code fills.
use Rattle.std.specs.Prelude.{ℕ, cond, ltb, length, set}
use mathlib.Core.List.{List, [], ◌∷◌, map, flat_map}
use Rattle.grammar.specs.Grammar.{transitions, next_names}
use Rattle.grammar.specs.Places.{spelled}
use Rattle.grammar.specs.declared.pieces.Arrow.{Arrow}
use Rattle.grammar.specs.declared.tokens.TextSpan.{TextSpan}
use Rattle.labels.specs.Labels.{same_label}
use Rattle.search.specs.Search.{index}

-- 1 for the state with the name x, where there is one
unfoldable pub mark_one : List ℕ → List (List ℕ) → List ℕ → TextSpan → List ℕ
mark_one t ls ws x = cond (ltb (index same_label (spelled t x) ls) (length ls)) (set ws (index same_label (spelled t x) ls) 1) ws

unfoldable pub mark_all : List ℕ → List (List ℕ) → List ℕ → List TextSpan → List ℕ
mark_all t ls ws [] = ws
mark_all t ls ws (x ∷ xs) = mark_all t ls (mark_one t ls ws x) xs

-- the names from a place on, each behind a comma
abbrev pub names_from : List ℕ → ℕ → List (List ℕ)
names_from t at = map (spelled t) (next_names t at).items

-- where the two names of a transition stand
abbrev pub both_spans : Arrow → List TextSpan
both_spans e = e.from ∷ e.to ∷ []

-- where the names of the transitions from a place on stand
unfoldable pub spans_from : List ℕ → ℕ → List TextSpan
spans_from t at = flat_map both_spans (transitions t at).items
