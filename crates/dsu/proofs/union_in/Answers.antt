-- What a find was refused with is the answer; after both, there are two roots.
use Rattle.std.proofs.Common.{arith}
use Rattle.std.proofs.lemmas.Result.{err_from_is_err_and}
use Rattle.dsu.proofs.Joining.{in_first_broken, in_second_broken, in_roots}
use Rattle.dsu.proofs.union_in.Goals as goal

pub returns-in_err-a : goal.returns-in_err-a
returns-in_err-a c =
    let p = err_from_is_err_and c.from_residual.result c.from_residual.ensures.1 in
    rw (p.1, p.2) (in_first_broken _ _ _ _ _ (omega arith) (omega arith) _ _ c.in_err-a.ensures)

pub returns-in_err-b : goal.returns-in_err-b
returns-in_err-b c =
    let p = err_from_is_err_and c.from_residual-in_err-b.result c.from_residual-in_err-b.ensures.1 in
    rw (p.1, p.2) (in_second_broken _ _ _ _ _ (omega arith) (omega arith) _ _ c.in_ok-a.ensures _ _ c.in_err-b.ensures)

pub join_roots-requires : goal.join_roots-requires
join_roots-requires c = in_roots _ _ _ _ _ (omega arith) (omega arith) _ _ c.in_ok-a.ensures _ _ c.in_ok-b.ensures
