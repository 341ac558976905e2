-- `mark` meets its contract: the word of the name is marked, or the table has none.
use native.Mathlib.Omega.{arith}
use Rattle.parser.proofs.Marking.{mark_laws, mark_none, among_not}
use Rattle.parser.proofs.accepts.mark.Statement.{statement}
use Rattle.parser.proofs.accepts.mark.Tie as tie

pub mark_spec : {M : Type 1} → statement M
mark_spec =
    tie.close
    (tie.spec (λ c κs. search mark_laws) (λ c. search mark_laws)
    (λ c. let a = c.args in
    let k = c.requires.0 in
    let e = c.number_of-i.ensures in (
      among_not _ _ _ k a.x a.words.now _ e (omega arith),
      mark_none _ _ _ k a.x _ _ e (omega arith),
    ))
    (λ c. search mark_laws) (λ c. search mark_laws) (λ c. search mark_laws) (λ c. search mark_laws))
