use Rattle.std.proofs.Common.{refl, arith}
use Rattle.automata.proofs.Chunks.{records_are}
use Rattle.ranges.proofs.SortedCuts.{sorted_skip, sorted_next, cut_skip, cut_holds, cut_above, cut_ended}
use Rattle.words.proofs.Gather.{run_skip, run_holds, run_above, run_ended, sorted_past, cut_past, run_past}
use Rattle.words.proofs.Rows.{chunk_target}
use Rattle.words.proofs.follow.Goals as goal
use Rattle.words.proofs.follow.Goals.{then-symbol-r+then-r-eq1+else-symbol-r-2, then-symbol-r+else-r-eq1, else-symbol-r}

pub loop-r-init : goal.loop-r-init
loop-r-init c = rw (records_are _ _ c.as_chunks.ensures.front) (record { sorted = c.requires.1; reached = refl; cut = refl })

pub returns-then-symbol-r-2-clause-cut : goal.returns-then-symbol-r-2-clause-cut
returns-then-symbol-r-2-clause-cut c = search cut_above

pub returns-then-symbol-r-2-clause-reached : goal.returns-then-symbol-r-2-clause-reached
returns-then-symbol-r-2-clause-reached c = search run_above

pub take_closure-requires : goal.take_closure-requires
take_closure-requires c = (omega arith, search chunk_target)

pub loop-r-preserved : goal.loop-r-preserved
loop-r-preserved c =
    elim c.if-symbol-r.branch [
      | then-symbol-r+then-r-eq1+else-symbol-r-2 w ↦ rw (w.next-is, w.found-is) (record { sorted = search sorted_next; reached = search run_holds; cut = search cut_holds })
      | then-symbol-r+else-r-eq1 w ↦ rw (w.next-is, w.found-is) (record { sorted = search sorted_skip; reached = search run_skip; cut = search cut_skip })
      | else-symbol-r w ↦ rw (w.next-is, w.found-is) (record { sorted = search sorted_past; reached = search run_past; cut = search cut_past })
    ]

pub returns-clause-cut : goal.returns-clause-cut
returns-clause-cut c = search cut_ended

pub returns-clause-reached : goal.returns-clause-reached
returns-clause-reached c = search run_ended
