-- `push_unmet` meets its contract: the targets of the records before `at` were met.
use Prim.Native.Nat.{◌+◌, ◌-◌, ◌≤◌}
use native.Mathlib.Omega.{arith}
use lib.ListN.{length, drop}
use Rattle.automata.specs.Records.{read_records}
use Rattle.sheets.specs.inner.Runs.{Named}
use Rattle.emptiness.specs.inner.Marks.{Pushed}
use Rattle.emptiness.proofs.Marks.{push_laws, push_two}
use Rattle.emptiness.proofs.push_unmet.Statement.{statement}
use Rattle.emptiness.proofs.push_unmet.Tie as tie

abbrev invariant-loop-at : tie.invariant-loop-at
invariant-loop-at t from marks₀ stack₀ top e₀ at₀ marks stack e at =
    (at ≤ length t) × Named 256 (read_records (drop at t)) × Pushed marks₀ stack₀ top (read_records (drop from t)) (read_records (drop at t)) marks stack e

abbrev decreases-loop-at : tie.decreases-loop-at
decreases-loop-at t from marks₀ stack₀ top e₀ at₀ marks stack e at = length t - at

loop-at-init : tie.Need-loop-at-init invariant-loop-at decreases-loop-at
loop-at-init c = search push_laws

overflow_sub-t : tie.Need-overflow_sub-t invariant-loop-at decreases-loop-at
overflow_sub-t c = search push_laws

overflow_add-p : tie.Need-overflow_add-p invariant-loop-at decreases-loop-at
overflow_add-p c = search push_laws

offset_bounds-t-at : tie.Need-offset_bounds-t-at invariant-loop-at decreases-loop-at
offset_bounds-t-at c = search push_laws

bounds-t-at : tie.Need-bounds-t-at invariant-loop-at decreases-loop-at
bounds-t-at c = search push_laws

overflow_add-q : tie.Need-overflow_add-q invariant-loop-at decreases-loop-at
overflow_add-q c = search push_laws

offset_bounds-t-at-in-loop-at : tie.Need-offset_bounds-t-at-in-loop-at invariant-loop-at decreases-loop-at
offset_bounds-t-at-in-loop-at c = search push_laws

bounds-t-at-in-loop-at : tie.Need-bounds-t-at-in-loop-at invariant-loop-at decreases-loop-at
bounds-t-at-in-loop-at c = search push_laws

overflow_add-at : tie.Need-overflow_add-at invariant-loop-at decreases-loop-at
overflow_add-at c = search push_laws

overflow_cast-p : tie.Need-overflow_cast-p invariant-loop-at decreases-loop-at
overflow_cast-p c = omega (arith, c.shared_slice_known-in-loop-at-2-1.given (c.loop-at.at + 4))

bounds-marks-p : tie.Need-bounds-marks-p invariant-loop-at decreases-loop-at
bounds-marks-p c = search push_laws

overflow_cast-q : tie.Need-overflow_cast-q invariant-loop-at decreases-loop-at
overflow_cast-q c = omega (arith, c.shared_slice_known-in-loop-at-2-1.given (c.loop-at.at + 9))

bounds-marks-q : tie.Need-bounds-marks-q invariant-loop-at decreases-loop-at
bounds-marks-q c = search push_laws

push_state-e-requires : tie.Need-push_state-e-requires invariant-loop-at decreases-loop-at
push_state-e-requires c κs = search push_laws

push_state-e-requires-then-marks-p-eq0 : tie.Need-push_state-e-requires-then-marks-p-eq0 invariant-loop-at decreases-loop-at
push_state-e-requires-then-marks-p-eq0 c κs = search push_laws

loop-at-smaller-then-marks-p-eq0 : tie.Need-loop-at-smaller-then-marks-p-eq0 invariant-loop-at decreases-loop-at
loop-at-smaller-then-marks-p-eq0 c = search push_laws

loop-at-preserved-then-marks-p-eq0 : tie.Need-loop-at-preserved-then-marks-p-eq0 invariant-loop-at decreases-loop-at
loop-at-preserved-then-marks-p-eq0 c =
    let args = c.args in
    (search push_laws, search push_laws, push_two args.t.now c.loop-at.at c.loop-at.invariant.1 c.loop-at-test.true _ _ args.from _ _ _ _ c.loop-at.invariant.2 _ _ _ c.push_state-e.ensures _ _ _ c.push_state-e-then-marks-p-eq0.ensures)

loop-at-smaller : tie.Need-loop-at-smaller invariant-loop-at decreases-loop-at
loop-at-smaller c = search push_laws

loop-at-preserved : tie.Need-loop-at-preserved invariant-loop-at decreases-loop-at
loop-at-preserved c = search push_laws

overflow_sub-t-2 : tie.Need-overflow_sub-t-2 invariant-loop-at decreases-loop-at
overflow_sub-t-2 c = search push_laws

overflow_add-at-then-t-at-ge5 : tie.Need-overflow_add-at-then-t-at-ge5 invariant-loop-at decreases-loop-at
overflow_add-at-then-t-at-ge5 c = search push_laws

offset_bounds-t-at-then-t-at-ge5 : tie.Need-offset_bounds-t-at-then-t-at-ge5 invariant-loop-at decreases-loop-at
offset_bounds-t-at-then-t-at-ge5 c = search push_laws

bounds-t-at-then-t-at-ge5 : tie.Need-bounds-t-at-then-t-at-ge5 invariant-loop-at decreases-loop-at
bounds-t-at-then-t-at-ge5 c = search push_laws

push_state-requires : tie.Need-push_state-requires invariant-loop-at decreases-loop-at
push_state-requires c κs = search push_laws

shape_of-marks-then-t-at-ge5 : tie.Need-shape_of-marks-then-t-at-ge5 invariant-loop-at decreases-loop-at
shape_of-marks-then-t-at-ge5 c = search push_laws

shape_of-stack-then-t-at-ge5 : tie.Need-shape_of-stack-then-t-at-ge5 invariant-loop-at decreases-loop-at
shape_of-stack-then-t-at-ge5 c = search push_laws

returns-then-t-at-ge5 : tie.Need-returns-then-t-at-ge5 invariant-loop-at decreases-loop-at
returns-then-t-at-ge5 c = search push_laws

shape_of-marks : tie.Need-shape_of-marks invariant-loop-at decreases-loop-at
shape_of-marks c = search push_laws

shape_of-stack : tie.Need-shape_of-stack invariant-loop-at decreases-loop-at
shape_of-stack c = search push_laws

returns : tie.Need-returns invariant-loop-at decreases-loop-at
returns c = search push_laws

pub push_unmet_spec : {M : Type 1} → statement M
push_unmet_spec =
    tie.close
    (tie.spec
    invariant-loop-at
    decreases-loop-at
    loop-at-init
    overflow_sub-t
    overflow_add-p
    offset_bounds-t-at
    bounds-t-at
    overflow_add-q
    offset_bounds-t-at-in-loop-at
    bounds-t-at-in-loop-at
    overflow_add-at
    overflow_cast-p
    bounds-marks-p
    overflow_cast-q
    bounds-marks-q
    push_state-e-requires
    push_state-e-requires-then-marks-p-eq0
    loop-at-smaller-then-marks-p-eq0
    loop-at-preserved-then-marks-p-eq0
    loop-at-smaller
    loop-at-preserved
    overflow_sub-t-2
    overflow_add-at-then-t-at-ge5
    offset_bounds-t-at-then-t-at-ge5
    bounds-t-at-then-t-at-ge5
    push_state-requires
    shape_of-marks-then-t-at-ge5
    shape_of-stack-then-t-at-ge5
    returns-then-t-at-ge5
    shape_of-marks
    shape_of-stack
    returns)
