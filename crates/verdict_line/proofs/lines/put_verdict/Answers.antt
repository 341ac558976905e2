-- `put_verdict` meets its contract: each verdict has its line.
use Rattle.verdict_line.proofs.Printing.{verdict_laws}
use Rattle.verdict_line.proofs.lines.put_verdict.Goals as goal

pub overflow_cast-joins : goal.overflow_cast-joins
overflow_cast-joins c = search verdict_laws

pub slice_bounds-put_differ-end : goal.slice_bounds-put_differ-end
slice_bounds-put_differ-end c = search verdict_laws

pub put_differ-requires : goal.put_differ-requires
put_differ-requires c = (search verdict_laws, search verdict_laws)

pub returns-in-Same : goal.returns-in-Same
returns-in-Same c = (search verdict_laws, search verdict_laws)

pub returns-in-Different : goal.returns-in-Different
returns-in-Different c = (search verdict_laws, search verdict_laws)

pub returns-in-Refused : goal.returns-in-Refused
returns-in-Refused c = (search verdict_laws, search verdict_laws)
