-- The text is written where nothing is refused.
use Rattle.writer.proofs.Answers.{ready_write_laws}
use Rattle.writer.proofs.write_ready.Goals as goal

pub returns : goal.returns
returns c = search ready_write_laws
