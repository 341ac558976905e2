-- Both arrays count up to the last element, whose parent is stored behind the loop.
use Rattle.dsu_replay.proofs.Chains.{chain_laws}
use Rattle.dsu_replay.proofs.chain.Goals as goal

pub loop-i-init : goal.loop-i-init
loop-i-init c = search chain_laws

pub loop-i-preserved : goal.loop-i-preserved
loop-i-preserved c = search chain_laws

pub returns : goal.returns
returns c = search chain_laws
