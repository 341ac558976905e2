-- For inner contracts. What stands in a text, as the code knows it.
use Rattle.std.specs.Prelude.{ℕ, ◌-◌, ◌≤◌, ◌<◌, List, length}
use Rattle.grammar.specs.declared.tokens.TextSpan.{TextSpan}
use Rattle.grammar.specs.declared.pieces.Arrow.{Arrow}
use Rattle.grammar.specs.declared.text.Layout.{Layout}

-- a name stands in the text: one to 64 bytes
pub record Spelt (t : List ℕ) (s : TextSpan) : Type 0 where
  pub some : s.start < s.end
  pub short : s.end - s.start ≤ 64
  pub inside : s.end ≤ length t

-- a transition stands in the text
pub record Drawn (t : List ℕ) (e : Arrow) : Type 0 where
  pub from_spelt : Spelt t e.from
  pub to_spelt : Spelt t e.to
  pub full : e.first ≤ e.last

-- the names that the layout holds stand in the text
pub record Laid (t : List ℕ) (l : Layout) : Type 0 where
  pub initial_spelt : Spelt t l.initial
  pub first_spelt : Spelt t l.first
