-- Transitions as records of five words: from, kind, first, last, to.
use Rattle.std.specs.Prelude.{ℕ, List, [], ◌∷◌, ◌++◌}
use Rattle.automata.specs.Automaton.{Transition}

abbrev pub words_of : Transition → List ℕ
words_of e = e.from ∷ e.kind ∷ e.first ∷ e.last ∷ e.to ∷ []

-- the records of a list of words; fewer than five words left over are none
unfoldable pub read_records : List ℕ → List Transition
read_records [] = []
read_records (a ∷ []) = []
read_records (a ∷ b ∷ []) = []
read_records (a ∷ b ∷ c ∷ []) = []
read_records (a ∷ b ∷ c ∷ d ∷ []) = []
read_records (a ∷ b ∷ c ∷ d ∷ e ∷ rest) = record { from = a; kind = b; first = c; last = d; to = e } ∷ read_records rest

unfoldable pub write_records : List Transition → List ℕ
write_records [] = []
write_records (e ∷ es) = words_of e ++ write_records es
