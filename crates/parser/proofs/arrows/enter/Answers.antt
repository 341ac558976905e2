-- `enter` meets its contract: the name is one of those in the table, or is put behind them.
use Rattle.std.proofs.Common.{arith}
use Rattle.parser.proofs.Entering.{enter_laws, enter_new}
use Rattle.parser.proofs.arrows.enter.Goals as goal

pub returns-then-i-n : goal.returns-then-i-n
returns-then-i-n c = search enter_laws

pub returns : goal.returns
returns c = enter_new _ _ _ c.requires.0 c.args.x _ c.number_of-i.ensures _ _ c.add_name.ensures (omega arith) _ c.in_ok-m.was
