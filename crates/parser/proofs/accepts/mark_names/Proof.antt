-- `mark_names` meets its contract: the first name, then the others.
use borrow.Author.Rules.{rules}
use Rattle.parser.proofs.Marking.{marks_first}
use Rattle.parser.proofs.Spelling.{first_is, first_not}
use Rattle.parser.proofs.accepts.mark_names.Statement.{statement}
use Rattle.parser.proofs.accepts.mark_names.Tie as tie

pub mark_names_spec : {M : Type 1} → statement M
mark_names_spec =
    tie.close
    (tie.spec (λ c κs. search rules) (λ c κs. search rules) (λ c. search rules)
    (λ c. let a = c.args in (
      first_is a.text.now _ a.first a.more.at _ c.mark-found.ensures.0 (search rules) _ c.mark_next-others.ensures.0,
      marks_first _ _ _ _ _ _ _ c.mark-found.ensures.1 c.mark_next-others.ensures.1,
    ))
    (λ c. search rules)
    (λ c. let a = c.args in (
      first_not a.text.now _ a.first a.more.at _ c.mark-found.ensures.0 (search rules),
      marks_first _ _ _ _ _ _ _ c.mark-found.ensures.1 c.mark_next-others.ensures.1,
    )))
