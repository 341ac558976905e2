-- What a verdict says of two automata in which every symbol between the ends has one transition in every state.
use Rattle.std.specs.Prelude.{ℕ, ◌+◌, ◌≤◌, List, ◌≡◌, length, take, drop}
use Rattle.automata.specs.Automaton.{Word}
use Rattle.dsu.specs.Classes.{Classes}
use Rattle.determinizations.specs.Two.{Two, total_size}
use Rattle.equality.specs.declared.Verdict.{Verdict}
use Rattle.equality.specs.declared.Verdict.TheVariants.{Same, Different, Refused}
use Rattle.automata.specs.Successors.{accept_after}
use Rattle.equality.specs.Forced.{Forced}

-- same: no word tells the two apart, and the joins are the states of both less the classes
pub record Equal (t : Two) (joins : ℕ) : Type 0 where
  pub words : (w : List ℕ) → Word t.lower t.upper w → accept_after t.one w ≡ accept_after t.two w
  pub number : ℕ
  pub counted : Classes (Forced t) (total_size t) number
  pub joined : joins + number ≡ total_size t

-- different: the word tells the two apart, and its symbols number at most the states of both less 2
pub record Apart (t : Two) (w : List ℕ) : Type 0 where
  pub word : Word t.lower t.upper w
  pub short : length w + 2 ≤ total_size t
  pub differ : accept_after t.one w ≡ accept_after t.two w → ⊥

-- what holds of a verdict on two such automata that is not refused; o is the lent buffer before, o' after
unfoldable pub Decided : Two → List ℕ → List ℕ → Verdict → Type 0
Decided t o o' (Same joins) = Equal t joins × (o' ≡ o)
Decided t o o' (Different n) = Apart t (take n o') × (n ≤ length o') × (drop n o' ≡ drop n o)
Decided t o o' (Refused r) = ⊥
