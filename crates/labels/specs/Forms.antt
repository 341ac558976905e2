-- The labels that operations make, as ASCII bytes: `D12`, `(3, 4)` and `sink`.
use Rattle.std.specs.Prelude.{ℕ, List, [], ◌∷◌, ◌++◌}
use Rattle.lists.specs.Lists.{tabulate}
use Rattle.decimal.specs.Decimal.{digits}

-- D and k in decimal
abbrev pub numbered_label : ℕ → List ℕ
numbered_label k = 68 ∷ digits k

-- (p, q) in decimal
abbrev pub pair_label : ℕ → ℕ → List ℕ
pair_label p q = 40 ∷ digits p ++ 44 ∷ 32 ∷ digits q ++ 41 ∷ []

-- sink
abbrev pub sink_label : List ℕ
sink_label = 115 ∷ 105 ∷ 110 ∷ 107 ∷ []

-- D0, D1, .. , as many as n
unfoldable pub numbered_labels : ℕ → List (List ℕ)
numbered_labels n = tabulate n numbered_label
