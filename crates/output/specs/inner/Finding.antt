-- For inner contracts. A record found among records in order.
use Rattle.std.specs.Prelude.{ℕ, ◌+◌, ◌≤◌, Bool, true, false, ◌&&◌, List, ◌≡◌, eqb, length}
use Rattle.lists.specs.Lists.{◌∈◌}
use Rattle.automata.specs.Automaton.{Transition}
use Rattle.automata.specs.inner.Records.{record_at}
use Rattle.output.specs.inner.Ordered.{records_in}

-- the two have the same words
abbrev pub same_record : Transition → Transition → Bool
same_record d e = eqb d.from e.from && eqb d.kind e.kind && eqb d.first e.first && eqb d.last e.last && eqb d.to e.to

-- one of the records before end stands at `at`, and none but it can be x
pub record Placed (buf : List ℕ) (end : ℕ) (x : Transition) (at : ℕ) : Type 0 where
  pub inside : at + 5 ≤ length buf
  pub one : record_at buf at ∈ records_in buf 0 end
  pub only : x ∈ records_in buf 0 end → x ≡ record_at buf at

-- b says whether x is one of ds
pub record Tells (b : Bool) (x : Transition) (ds : List Transition) : Type 0 where
  pub yes : b ≡ true → x ∈ ds
  pub no : b ≡ false → x ∈ ds → ⊥
