-- `from_start` meets its contract: the tables are blank.
use Rattle.output.proofs.Collecting.{small_memory}
use Rattle.parser.proofs.Memory.{zeros}
use Rattle.parser.proofs.from_start.Goals as goal

pub with_tables-requires-clause-spelt : goal.with_tables-requires-clause-spelt
with_tables-requires-clause-spelt c = (c.requires.spelt, (zeros 1024).long, small_memory, zeros 256)
