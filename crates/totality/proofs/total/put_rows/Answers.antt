-- By the laws of what is left to write.
use Rattle.totality.proofs.Rows.{rows_laws, rows_next}
use Rattle.totality.proofs.total.put_rows.Goals as goal

pub run-run-requires : goal.run-run-requires
run-run-requires c = search rows_laws

pub put_filled-end-requires-clause-fillable : goal.put_filled-end-requires-clause-fillable
put_filled-end-requires-clause-fillable c = search rows_laws

pub put_filled-end-requires-clause-run_in_bounds : goal.put_filled-end-requires-clause-run_in_bounds
put_filled-end-requires-clause-run_in_bounds c = search rows_laws

pub loop-q-preserved : goal.loop-q-preserved
loop-q-preserved c = rows_next _ _ _ _ _ _ _ c.args.s.now _ c.loop-q.invariant c.loop-q-test.true _ c.run-run.ensures _ _ c.put_filled-end.ensures

pub returns : goal.returns
returns c = search rows_laws
