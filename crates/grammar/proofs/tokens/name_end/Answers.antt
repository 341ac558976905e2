-- The name ends at the first other byte, or where the text ends.
use Rattle.grammar.proofs.Runs.{name_laws}
use Rattle.grammar.proofs.tokens.name_end.Goals as goal

pub returns-then-not-is_name_byte : goal.returns-then-not-is_name_byte
returns-then-not-is_name_byte c = search name_laws

pub loop-end-preserved : goal.loop-end-preserved
loop-end-preserved c = search name_laws

pub returns : goal.returns
returns c = search name_laws
