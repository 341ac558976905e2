-- What the find of the parent was refused with is the answer.
use Rattle.std.proofs.Common.{arith, get_or}
use Rattle.std.proofs.lemmas.Result.{err_from_is_err_and}
use Rattle.dsu.proofs.Finding.{in_broken}
use Rattle.dsu.proofs.+find_in.Goals as goal

pub returns-in_err-root : goal.returns-in_err-root
returns-in_err-root t c =
    let p = err_from_is_err_and c.from_residual.result c.from_residual.ensures.1 in
    rw (p.1, p.2) (in_broken _ _ _ _ c.requires (get_or c.args.repr.now c.args.x 0) (omega arith) (omega arith) (omega arith) (omega arith) _ _ c.in_err-root.ensures)
