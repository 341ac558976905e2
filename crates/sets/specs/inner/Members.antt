-- For inner contracts. The members of a set one after the other, and sets of states below a number.
use Rattle.std.specs.Prelude.{ℕ, ◌≡◌, leb, get_or}
use Rattle.lists.specs.Lists.{filter}
use Rattle.sets.specs.Sets.{Set, has, pick}

-- a set of states below n: what its own members pick
abbrev pub Canon : ℕ → Set → Type 0
Canon n S = pick n (λ q. has q S) ≡ S

-- the members from q on
unfoldable pub members_from : ℕ → Set → Set
members_from q S = filter (leb q) S

-- the least member from q on, or 256
unfoldable pub next_member : Set → ℕ → ℕ
next_member S q = get_or (members_from q S) 0 256
