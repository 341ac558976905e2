-- Two intersections, and whether they have a symbol.
use Rattle.equality.proofs.Reading.{common_none, common_outside, common_symbol}
use Rattle.equality.proofs.walk.first_common.Goals as goal

pub returns-in_err-first : goal.returns-in_err-first
returns-in_err-first c = rw c.from_residual.ensures (common_none _ _ _ _ c.in_err-first.ensures)

pub returns-in_err-x : goal.returns-in_err-x
returns-in_err-x c = rw c.from_residual-in_err-x.ensures (common_outside _ _ _ _ _ _ c.in_ok-first.ensures c.in_err-x.ensures)

pub returns : goal.returns
returns c = common_symbol _ _ _ _ _ _ c.in_ok-first.ensures _ _ c.in_ok-x.ensures
