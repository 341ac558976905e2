use Rattle.std.proofs.Common.{arith}
use Rattle.sheets.proofs.Named.{chunk_to}
use Rattle.words.proofs.Epsilons.{epsilons_begin, epsilons_next, epsilons_end}
use Rattle.words.proofs.Rows.{chunk_row}
use Rattle.words.proofs.add_epsilons.Goals as goal

pub loop-r-init : goal.loop-r-init
loop-r-init c = search epsilons_begin

pub add_epsilon-requires : goal.add_epsilon-requires
add_epsilon-requires c = (let r = chunk_row _ _ _ c.loop-r.r-index c.as_chunks.ensures.front c.requires.1 c.loop-r-test.true in omega arith, search chunk_to)

pub loop-r-preserved : goal.loop-r-preserved
loop-r-preserved c = search epsilons_next

pub returns : goal.returns
returns c = search epsilons_end
