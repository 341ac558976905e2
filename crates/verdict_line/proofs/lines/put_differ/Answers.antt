-- The line begins, goes on with the symbols, and ends.
use Rattle.verdict_line.proofs.Printing.{differ_laws, symbols_none}
use Rattle.std.proofs.Common.{arith}
use Rattle.verdict_line.proofs.lines.put_differ.Goals as goal

pub loop-x-init : goal.loop-x-init
loop-x-init c = (omega arith, symbols_none _ c.args.word.now _)

pub loop-x-preserved : goal.loop-x-preserved
loop-x-preserved c = search differ_laws

pub returns : goal.returns
returns c = search differ_laws
