-- By the laws of the accept words.
use Rattle.std.proofs.Common.{arith}
use Rattle.determinize.proofs.Sections.{accept_laws, accepts_next}
use Rattle.determinize.proofs.writing.put_accept_words.Goals as goal

pub loop-j-init : goal.loop-j-init
loop-j-init c = (search accept_laws, search accept_laws)

pub loop-j-preserved : goal.loop-j-preserved
loop-j-preserved c = (omega arith, accepts_next _ _ _ _ _ _ _ c.loop-j.invariant.1 _ c.accept_word.ensures _ _ c.put-end.ensures)

pub returns : goal.returns
returns c = search accept_laws
