-- What a function that writes into lent memory does: a run of elements from a place on, and the place behind it.
use Rattle.std.specs.Prelude.{ℕ, ◌+◌, List, ◌≡◌, length}
use Rattle.std.proofs.lemmas.List.Edits.{sets}

-- the list after is the list before with the elements vs stored from at on, and end is the place behind them
pub record Written {A : Type 0} (before : List A) (at : ℕ) (vs after : List A) (end : ℕ) : Type 0 where
  pub stored : after ≡ sets before at vs
  pub behind : end ≡ at + length vs
