-- The laws by which the functions on the records of one state are proved, and the loops over states.
use Prim.Native.Nat.{ℕ}
use mathlib.Core.Bool.{Bool, true, false}
use mathlib.Core.List.{List}
use mathlib.Core.Path.{◌≡◌}
use borrow.Author.Rules.{rules}
use lib.Dec.{ltb}
use lib.ListN.{length}
use Rattle.automata.specs.Automaton.{ranges_of, has_epsilon}
use Rattle.automata.specs.Records.{read_records}
use Rattle.ranges.specs.Span.{overlapping}
use Rattle.ranges.specs.Missing.{missing}
use Rattle.nondeterminism.specs.Nondeterminism.{holes_of, is_nfa_at}

-- the three tests of one state's records
module _ (lower upper : ℕ) (run : List ℕ) (a : Bool) (e : a ≡ has_epsilon (read_records run)) where
  pub nfa_epsilon : a ≡ true → true ≡ is_nfa_at lower upper (read_records run)
  unfolding is_nfa_at
  nfa_epsilon h = rw (← e, h)

  module _ (f : a ≡ false) (b : Bool) (g : b ≡ overlapping (ranges_of (read_records run))) where
    pub nfa_overlap : b ≡ true → true ≡ is_nfa_at lower upper (read_records run)
    unfolding is_nfa_at
    nfa_overlap h = rw (← e, f, ← g, h)

    pub nfa_hole : b ≡ false → (k : ℕ) → k ≡ length (missing lower upper (ranges_of (read_records run))) → ltb 0 k ≡ is_nfa_at lower upper (read_records run)
    unfolding is_nfa_at holes_of
    nfa_hole h k p = rw (← e, f, ← g, h, p)

pub ruleset nfa_laws = (nfa_epsilon, nfa_overlap, nfa_hole, rules)
