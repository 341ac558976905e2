use Rattle.sets.proofs.Closing.{closure_laws, closed_round, closed_skip}
use Rattle.sets.proofs.closure.warshall.Goals as goal
use Rattle.sets.proofs.closure.warshall.Goals.{then-leads_on, else-leads_on}

pub loop-k-init : goal.loop-k-init
loop-k-init c = search closure_laws

pub loop-k-preserved : goal.loop-k-preserved
loop-k-preserved c =
    elim c.if-leads_on.branch [
      | then-leads_on w ↦ rw w.t-is (search closed_round)
      | else-leads_on w ↦ rw w.t-is (search closed_skip)
    ]
