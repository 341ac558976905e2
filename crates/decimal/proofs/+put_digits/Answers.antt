-- `put_digits` meets its contract: the digits of the tenth, and then the last one.
use Rattle.std.proofs.Common.{arith}
use Rattle.decimal.proofs.Put.{put_laws}
use Rattle.decimal.proofs.+put_digits.Goals as goal

pub put-requires : goal.put-requires
put-requires t c = search put_laws

pub returns-then-x-lt10 : goal.returns-then-x-lt10
returns-then-x-lt10 t c = search put_laws

pub put_digits-last-requires : goal.put_digits-last-requires
put_digits-last-requires t c = (omega arith, search put_laws)

pub returns : goal.returns
returns t c = search put_laws

pub put-requires-2 : goal.put-requires-2
put-requires-2 t c = search put_laws
