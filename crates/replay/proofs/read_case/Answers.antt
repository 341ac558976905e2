-- A line that was stored has room.
use Rattle.replay.proofs.Lines.{answer_within}
use Rattle.replay.proofs.read_case.Goals as goal

pub returns-clause-within : goal.returns-clause-within
returns-clause-within c = rw c.ok.ensures.value (answer_within _ _ _ _ _ c.read_line.ensures.answer c.read_line.auto.out)
