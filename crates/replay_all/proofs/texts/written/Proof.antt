-- `written` meets its contract: the stored bytes are the labels.
use borrow.Author.Rules.{rules}
use Rattle.replay_all.proofs.Spelling.{write_told, written_laws}
use Rattle.replay_all.proofs.texts.written.Statement.{statement}
use Rattle.replay_all.proofs.texts.written.Tie as tie

returns : tie.Need-returns
returns c =
    write_told _ _ _ c.list-sheet.ensures c.list-list.ensures _ c.bytes-k.ensures.1.1 c.if-k-list.false _ _ c.bytes-k.ensures.1.0 c.bytes-k.ensures.0.0 _ _
    c.write_automaton-answer.ensures c.is_text.ensures

pub written_spec : {M : Type 1} → statement M
written_spec =
    tie.close
    (tie.spec (λ c κs. search rules) (λ c. search rules) (λ c κs. search rules) (λ c. search rules) (λ c κs. search rules)
    (λ c. search written_laws) (λ c. search rules) (λ c. search rules) (λ c. search rules) (λ c κs. search rules) (λ c. search rules)
    (λ c. search rules) (λ c. search rules) (λ c κs. search rules)
    returns)
