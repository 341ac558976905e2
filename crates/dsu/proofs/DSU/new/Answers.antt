-- The loop puts each index at its place.
use Rattle.dsu.proofs.Fresh.{filling}
use Rattle.dsu.proofs.DSU.new.Goals as goal

pub loop-i-init : goal.loop-i-init
loop-i-init c = search filling

pub loop-i-preserved : goal.loop-i-preserved
loop-i-preserved c = search filling

pub returns-then-n-gt512 : goal.returns-then-n-gt512
returns-then-n-gt512 c = search filling

pub returns : goal.returns
returns c = search filling
