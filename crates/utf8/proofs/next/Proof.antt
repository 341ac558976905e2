-- `utf8::next` meets its contract: one case for each length of a sequence.
use borrow.Author.Rules.{rules}
use Rattle.utf8.proofs.Front.{next_end, next_one, next_sequence, next_none}
use Rattle.utf8.proofs.next.Statement.{statement}
use Rattle.utf8.proofs.next.Tie as tie

returns-in_default : tie.Need-returns-in_default
returns-in_default c =
    let r = c.in_default.in_default-own.rest in
    next_none _ _ _ c.if-text-at.false c.sequence_length-n.ensures r.0.0.0.1 r.0.0.1 r.0.1 r.1

pub next_spec : {M : Type 1} → statement M
next_spec =
    tie.close
    (tie.spec
    (λ c. search next_end) (λ c. search rules) (λ c κs. search rules) (λ c κs. search rules) (λ c. search rules) (λ c κs. search rules)
    (λ c κs. search rules) (λ c κs. search rules) (λ c. search next_one) (λ c. search next_sequence) (λ c. search next_sequence)
    (λ c. search next_sequence) returns-in_default)
