-- For inner contracts. The table of names that the code fills: where each stands in the text, and all in the order of crate `name_table`.
use Rattle.std.specs.Prelude.{ℕ, ◌+◌, ◌≤◌, ◌<◌, List, ◌≡◌, length, get_or, Option, Some, None}
use Rattle.grammar.specs.inner.Places.{Spelt}
use Rattle.grammar.specs.declared.tokens.TextSpan.{TextSpan}
use Rattle.lists.specs.Lists.{Distinct}
use Rattle.name_table.specs.inner.Names.{Arranged}
unfoldable pub use Rattle.name_table.specs.inner.Names.{names_in}

-- where name j stands
abbrev pub span_at : List ℕ → ℕ → TextSpan
span_at t j = record { start = get_or t (512 + j) 0; end = get_or t (768 + j) 0 }

-- a table of n names: each stands in the text, all are different, and they are in order
pub record SpeltTable (text t : List ℕ) (n : ℕ) : Type 0 where
  pub room : length t ≡ 1024
  pub few : n ≤ 256
  pub spelt : (j : ℕ) → j < n → Spelt text (span_at t j)
  pub distinct : Distinct (names_in text t n)
  pub arranged : Arranged text t n

-- the table t has the names ls, or these are over 256
pub data SpeltAddition (text : List ℕ) (ls : List (List ℕ)) (t : List ℕ) : Option ℕ → Type 0 where
  kept : {n : ℕ} → SpeltTable text t n → names_in text t n ≡ ls → SpeltAddition text ls t (Some n)
  full : 256 < length ls → SpeltAddition text ls t None
