-- A refusal of the first, one of the second, or both sheets.
use Rattle.std.proofs.lemmas.Result.{err_from_is_err_and}
use Rattle.determinizations.proofs.Fronts.{first_refused, second_refused, both_given}
use Rattle.determinizations.proofs.determinize_both.Goals as goal

pub returns-in_err-first : goal.returns-in_err-first
returns-in_err-first c =
    let p = err_from_is_err_and c.from_residual.result c.from_residual.ensures.1 in
    rw (p.1, p.2) (first_refused _ _ c.args.a.now c.args.b.now _ _ c.args.out_b.now _ c.determinize_accepted.ensures _ c.in_err-first.was)

pub returns-in_err-second : goal.returns-in_err-second
returns-in_err-second c =
    let p = err_from_is_err_and c.from_residual-in_err-second.result c.from_residual-in_err-second.ensures.1 in
    rw (p.1, p.2)
    (second_refused _ _ c.args.a.now c.args.b.now _ _ _ _ c.determinize_accepted.ensures _ c.in_ok-first.was c.requires.0 c.requires.2 _ _ c.determinize_accepted-2.ensures _ c.in_err-second.was)

pub returns : goal.returns
returns c =
    both_given _ _ _ _ _ _ _ _ c.determinize_accepted.ensures _ c.in_ok-first.was c.requires.0 c.requires.2 _ _ c.determinize_accepted-2.ensures _ c.in_ok-second.was
    c.requires.1 c.requires.3
