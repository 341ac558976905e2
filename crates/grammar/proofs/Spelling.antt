-- Laws of names and of needed space in a text.
use Prim.Native.Nat.{ℕ, ◌+◌, ◌-◌, ◌≤◌, ◌<◌}
use mathlib.Core.Bool.{Bool, true, false, not}
use mathlib.Core.List.{List}
use mathlib.Core.Path.{◌≡◌, sym, ◌∙◌}
use native.Mathlib.Omega.{arith}
use borrow.Author.Rules.{rules}
use borrow.Author.Tests.{not-true, not-false, le-ltb, lt-ltb, lt-leb, le-leb}
use lib.ListN.{length, get_or, drop, get_or-eq_default}
use Rattle.grammar.specs.Bytes.{is_letter, is_name_byte}
use Rattle.grammar.specs.Grammar.{nothing, found, mark, run, space, needed_space, name}

module _ (t : List ℕ) (at next : ℕ) (e : next ≡ space t at) where
  pub needed_some : at < next → found mark next ≡ needed_space t at
  unfolding needed_space
  needed_some h = sym (rw (← e, lt-ltb at next h))

  pub needed_none : next ≤ at → nothing ≡ needed_space t at
  unfolding needed_space
  needed_none h = sym (rw (← e, le-ltb at next h))

pub ruleset needed_laws = (needed_some, needed_none, rules)

module _ (t : List ℕ) (at : ℕ) where
  pub name_past : length t ≤ at → nothing ≡ name t at
  unfolding name is_letter
  name_past h = sym (rw (get_or-eq_default t 0 h))

  module _ (h : at < length t) (r : Bool) (e : r ≡ is_letter (get_or t at 0)) where
    pub name_other : not r ≡ true → nothing ≡ name t at
    unfolding name
    name_other k = sym (rw (sym e ∙ not-true r k))

    module _ (k : not r ≡ false) (end : ℕ) (q : end ≡ at + run is_name_byte (drop at t)) where
      size : run is_name_byte (drop at t) ≡ end - at
      size = omega arith

      pub name_long : 64 < end - at → nothing ≡ name t at
      unfolding name
      name_long l = sym (rw (sym e ∙ not-false r k, lt-leb (run is_name_byte (drop at t)) 64 (omega arith)))

      pub name_read : end - at ≤ 64 → found (record { start = at; end = end }) end ≡ name t at
      unfolding name
      name_read l = sym (rw (sym e ∙ not-false r k, le-leb (run is_name_byte (drop at t)) 64 (omega arith), ← q))

pub ruleset name_piece_laws = (name_past, name_other, name_long, name_read, rules)
