-- The heading, the transitions and the closing are the text.
use Rattle.writer.proofs.TextParts.{ready_laws}
use Rattle.writer.proofs.Putting.{text_heading, text_transitions, text_closing, text_put}
use Rattle.writer.proofs.writing.put_text.Goals as goal

pub put_heading-transitions-requires : goal.put_heading-transitions-requires
put_heading-transitions-requires c = (search ready_laws, text_heading _ _ _ c.args.out.now c.requires.0 c.requires.1)

pub put_transitions-closing-requires : goal.put_transitions-closing-requires
put_transitions-closing-requires c = (search ready_laws, text_transitions _ _ _ _ c.requires.0 c.requires.1 _ _ c.put_heading-transitions.ensures)

pub put_closing-requires : goal.put_closing-requires
put_closing-requires c = (search ready_laws, search ready_laws, text_closing _ _ _ _ c.requires.0 c.requires.1 _ _ c.put_heading-transitions.ensures _ _ c.put_transitions-closing.ensures)

pub returns : goal.returns
returns c = text_put _ _ _ _ c.requires.0 c.requires.1 _ _ c.put_heading-transitions.ensures _ _ c.put_transitions-closing.ensures _ _ c.put_closing.ensures
