use Rattle.words.proofs.Reading.{read_laws}
use Rattle.words.proofs.read_word.Goals as goal

pub loop-symbol-preserved : goal.loop-symbol-preserved
loop-symbol-preserved c = search read_laws

pub returns-then-is_empty : goal.returns-then-is_empty
returns-then-is_empty c = search read_laws

pub returns : goal.returns
returns c = search read_laws
