-- The tests are those of the definition.
use Rattle.replay_all.proofs.Spelling.{written_text_laws}
use Rattle.replay_all.proofs.texts.is_text.Goals as goal

pub returns-then-out-n : goal.returns-then-out-n
returns-then-out-n c = search written_text_laws

pub returns-else-out-n : goal.returns-else-out-n
returns-else-out-n c = search written_text_laws
