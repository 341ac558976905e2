-- Triggers, which `is_equivalent` compares (document 01, "Equality"): a transition's kind and its exact range. An epsilon is a trigger of its own.
use Rattle.std.specs.Prelude.{◌≤◌, Bool, not, ◌&&◌, List, ◌≡◌, eqb, ltb}
use Rattle.lists.specs.Lists.{◌∈◌, any, filter}
use Rattle.automata.specs.Automaton.{Transition}

pub record SameTrigger (d e : Transition) : Type 0 where
  pub kind : d.kind ≡ e.kind
  pub first : d.first ≡ e.first
  pub last : d.last ≡ e.last

-- the first of the transitions es of its trigger: none of them has a lower target
pub record FirstOfTrigger (es : List Transition) (e : Transition) : Type 0 where
  pub one : e ∈ es
  pub lowest : (d : Transition) → d ∈ es → SameTrigger d e → e.to ≤ d.to

-- each trigger of ds is one of es
abbrev pub TriggersWithin : List Transition → List Transition → Type 0
TriggersWithin ds es = (d : Transition) → d ∈ ds → (e : Transition) × e ∈ es × SameTrigger d e

-- the same as tests
unfoldable pub same_trigger : Transition → Transition → Bool
same_trigger d e = eqb d.kind e.kind && (eqb d.first e.first && eqb d.last e.last)

unfoldable pub is_lower : Transition → Transition → Bool
is_lower e d = same_trigger d e && ltb d.to e.to

unfoldable pub is_first : List Transition → Transition → Bool
is_first es e = not (any (is_lower e) es)

unfoldable pub firsts : List Transition → List Transition
firsts es = filter (is_first es) es

unfoldable pub is_lacking : List Transition → Transition → Bool
is_lacking es d = not (any (same_trigger d) es)

unfoldable pub triggers_within : List Transition → List Transition → Bool
triggers_within ds es = not (any (is_lacking es) ds)
