-- What passes the four checks may be compared.
use Rattle.subautomaton.proofs.Answers.{inputs_passed}
use Rattle.subautomaton.proofs.is_subautomaton.Goals as goal

pub compare-requires : goal.compare-requires
compare-requires c =
    inputs_passed _ _ _ _ _ c.check.ensures c.in_ok-check.was _ c.check-2.ensures c.in_ok-check-2.was _ c.check-3.ensures
    c.in_ok-check-3.was _ c.check-4.ensures c.in_ok-check-4.was
