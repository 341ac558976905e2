-- `add` meets its contract.
use mathlib.Core.Path.{refl}
use native.Mathlib.Omega.{arith}
use borrow.Author.Rules.{rules}
use Rattle.sets.proofs.Places.{ended_below, add_placed}
use Rattle.sets.proofs.lookup.add.Statement.{statement}
use Rattle.sets.proofs.lookup.add.Tie as tie

pub add_spec : {M : Type 1} → statement M
add_spec =
    tie.close
    (tie.spec (λ c κs. search rules) (λ c. search rules) (λ c. search rules)
    (λ c.
    omega (arith, ended_below _ _ _ _ _ c.requires.1.1))
    (λ c.
    omega (arith, ended_below _ _ _ _ _ c.requires.1.1, c.requires.0.0.long))
    (λ c. search rules)
    (λ c. search rules)
    (λ c. (
      (c.put_row.ensures, refl),
      add_placed _ _ _ _ _ _ _ _ c.requires.0.0 c.requires.1.1 c.requires.1.0 c.requires.0.2 c.put_row.ensures refl,
    )))
