-- Where a case has its lists, and which lists are bytes.
use Rattle.std.specs.Prelude.{ℕ, ◌+◌, Bool, List, eqb, length, take}
use Rattle.replay.specs.Cases.{list_at, bytes_before}

-- the place behind the list at a place
abbrev pub behind_list : List ℕ → ℕ → ℕ
behind_list s at = at + 1 + length (list_at s at)

-- the list has at most `room` elements, and all are bytes
abbrev pub are_bytes : ℕ → List ℕ → Bool
are_bytes room s = eqb (bytes_before (take room s)) (length s)
