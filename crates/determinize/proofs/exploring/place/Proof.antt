-- `place` meets its contract: the empty set, a set that the table has, and a new one.
use Rattle.std.proofs.Common.{arith, rules}
use Rattle.determinize.proofs.Placing.{place_empty, place_known, place_absent, place_new}
use Rattle.determinize.proofs.exploring.place.Statement.{statement}
use Rattle.determinize.proofs.exploring.place.Tie as tie

pub place_spec : {M : Type 1} → statement M
place_spec =
    tie.close
    (tie.spec (λ c κs. search rules)
    (λ c.
    (place_empty _ _ _ c.requires.0 _ c.is_empty.ensures c.if-is_empty.true, c.requires.3))
    (λ c κs. (c.requires.3, omega (arith, c.requires.0), omega (arith, c.requires.0, c.requires.1), c.requires.2))
    (λ c κs. search rules) (λ c. search rules) (λ c. search rules) (λ c. search rules)
    (λ c. (
      place_known _ _ _ c.requires.0 _ c.is_empty.ensures c.if-is_empty.false _ c.find-found.ensures.0 c.if-found-n.true,
      c.requires.3,
    ))
    (λ c κs. (
      (c.requires.3, c.requires.0, omega (arith, c.requires.0, c.requires.1), c.requires.2),
      (place_absent _ _ _ c.requires.0 _ c.is_empty.ensures c.if-is_empty.false _ c.find-found.ensures.0 c.if-found-n.false, c.find-found.ensures.1),
    ))
    (λ c. search rules) (λ c. search rules) (λ c. search rules) (λ c. search rules)
    (λ c. (
      place_new _ _ _ c.requires.0 _ c.is_empty.ensures c.if-is_empty.false _ c.find-found.ensures.0 c.if-found-n.false c.requires.1 _ c.add.ensures.0.0,
      c.add.ensures.1,
    )))
