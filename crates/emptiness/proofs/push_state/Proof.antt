-- `push_state` meets its contract: there is room on the stack for a state that was not met.
use Rattle.emptiness.proofs.Marks.{state_laws}
use Rattle.emptiness.proofs.push_state.Statement.{statement}
use Rattle.emptiness.proofs.push_state.Tie as tie

bounds-marks-k : tie.Need-bounds-marks-k
bounds-marks-k c = search state_laws

returns-then-marks-k-ne0 : tie.Need-returns-then-marks-k-ne0
returns-then-marks-k-ne0 c = search state_laws

bounds-marks-k-2 : tie.Need-bounds-marks-k-2
bounds-marks-k-2 c = search state_laws

offset_bounds-stack-top : tie.Need-offset_bounds-stack-top
offset_bounds-stack-top c = search state_laws

bounds-stack-top : tie.Need-bounds-stack-top
bounds-stack-top c = search state_laws

overflow_add-result : tie.Need-overflow_add-result
overflow_add-result c = search state_laws

shape_of-marks : tie.Need-shape_of-marks
shape_of-marks c = search state_laws

shape_of-stack : tie.Need-shape_of-stack
shape_of-stack c = search state_laws

returns : tie.Need-returns
returns c = search state_laws

pub push_state_spec : {M : Type 1} → statement M
push_state_spec =
    tie.close
    (tie.spec
    bounds-marks-k
    returns-then-marks-k-ne0
    bounds-marks-k-2
    offset_bounds-stack-top
    bounds-stack-top
    overflow_add-result
    shape_of-marks
    shape_of-stack
    returns)
