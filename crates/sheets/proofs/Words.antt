-- The accept word of a state stands at its place in the sheet.
use Prim.Native.Nat.{ℕ, ◌+◌, ◌<◌}
use mathlib.Core.List.{List}
use mathlib.Core.Path.{◌≡◌, sym, ◌∙◌, ap}
use native.Mathlib.Omega.{arith}
use borrow.Author.Rules.{rules}
use lib.ListN.{get_or, drop}
use lib.Seq.{get_or-take, get_or-drop}
use Rattle.sheets.specs.Sheet.{state_count, read}

pub accept_at : (s : List ℕ) (p : ℕ) → p < state_count s → get_or s (p + 3) 0 ≡ get_or (read s).accept p 0
accept_at s p h = sym (get_or-take (state_count s) (drop 3 s) p 0 h ∙ get_or-drop 3 s p 0 ∙ ap (λ (i : ℕ). get_or s i 0) (omega arith))

pub ruleset accept_laws = (accept_at, rules)
