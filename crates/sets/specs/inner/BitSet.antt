-- For inner contracts. A set of states as the code holds it: bits of words, 64 a word, four words from the place o of a table of words on.
use Rattle.std.specs.Prelude.{ℕ, ◌+◌, ◌*◌, ◌/◌, ◌%◌, ◌^◌, Bool, List, eqb, get_or}
use Rattle.lists.specs.Lists.{tabulate}
use Rattle.sets.specs.Sets.{Set, pick}

unfoldable pub bit : ℕ → ℕ → Bool
bit w k = eqb (w / 2 ^ k % 2) 1

unfoldable pub in_words : List ℕ → ℕ → ℕ → Bool
in_words t o q = bit (get_or t (o + q / 64) 0) (q % 64)

-- the set that the four words hold
unfoldable pub set_at : List ℕ → ℕ → Set
set_at t o = pick 256 (in_words t o)

-- the first n rows of a table, four words a row
unfoldable pub entries : List ℕ → ℕ → List Set
entries t n = tabulate n (λ j. set_at t (4 * j))
