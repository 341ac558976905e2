-- The elements before the first that is no byte, of which `i` are passed.
use Rattle.replay.proofs.Cases.{byte_laws}
use Rattle.replay.proofs.bytes.Goals as goal

pub returns-then-out-i-clause-count : goal.returns-then-out-i-clause-count
returns-then-out-i-clause-count c = search byte_laws

pub returns-then-x-gt255-clause-count : goal.returns-then-x-gt255-clause-count
returns-then-x-gt255-clause-count c = search byte_laws

pub loop-i-preserved : goal.loop-i-preserved
loop-i-preserved c = search byte_laws

pub returns-clause-count : goal.returns-clause-count
returns-clause-count c = search byte_laws
