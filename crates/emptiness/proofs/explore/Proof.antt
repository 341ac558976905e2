-- `explore` meets its contract: the states that were met, but for the one at hand and those on the stack, are done.
use Prim.Native.Nat.{◌+◌, ◌*◌}
use native.Mathlib.Omega.{arith}
use Rattle.sheets.specs.Sheet.{read}
use Rattle.emptiness.specs.inner.Marks.{unmet, Searched}
use Rattle.emptiness.proofs.Search.{search_laws, search_begin, state_bound, state_few, state_accepts, run_known, run_ordered, run_within, run_few}
use Rattle.emptiness.proofs.Search.{first_bound, first_asked, first_less, search_first, all_asked, search_end, back_place, back_less, search_back}
use Rattle.emptiness.proofs.explore.Statement.{statement}
use Rattle.emptiness.proofs.explore.Tie as tie

abbrev invariant-loop-q : tie.invariant-loop-q
invariant-loop-q s starts targets marks₀ stack₀ q₀ top₀ marks stack q top = Searched (read s) marks stack top q

abbrev decreases-loop-q : tie.decreases-loop-q
decreases-loop-q s starts targets marks₀ stack₀ q₀ top₀ marks stack q top = 2 * unmet marks + top

bounds-s-1 : tie.Need-bounds-s-1 invariant-loop-q decreases-loop-q
bounds-s-1 c = search search_laws

overflow_cast-marks : tie.Need-overflow_cast-marks invariant-loop-q decreases-loop-q
overflow_cast-marks c = search search_laws

bounds-marks-q : tie.Need-bounds-marks-q invariant-loop-q decreases-loop-q
bounds-marks-q c = search search_laws

loop-q-init : tie.Need-loop-q-init invariant-loop-q decreases-loop-q
loop-q-init c = search_begin _ _ _ _ _ c.requires

accept_word-requires : tie.Need-accept_word-requires invariant-loop-q decreases-loop-q
accept_word-requires c κs =
    let pre = c.requires in
    (pre.accepted, state_bound _ _ _ _ _ pre _ _ _ _ c.loop-q.invariant)

overflow_cast-p : tie.Need-overflow_cast-p invariant-loop-q decreases-loop-q
overflow_cast-p c =
    let pre = c.requires in
    omega (arith, state_few _ _ _ _ _ pre _ _ _ _ c.loop-q.invariant)

overflow_add-end : tie.Need-overflow_add-end invariant-loop-q decreases-loop-q
overflow_add-end c =
    let pre = c.requires in
    omega (arith, state_few _ _ _ _ _ pre _ _ _ _ c.loop-q.invariant)

offset_bounds-starts-p : tie.Need-offset_bounds-starts-p invariant-loop-q decreases-loop-q
offset_bounds-starts-p c =
    let pre = c.requires in
    omega (arith, state_few _ _ _ _ _ pre _ _ _ _ c.loop-q.invariant)

bounds-starts-p : tie.Need-bounds-starts-p invariant-loop-q decreases-loop-q
bounds-starts-p c =
    let pre = c.requires in
    run_known _ _ _ _ _ pre _ _ _ _ c.loop-q.invariant

overflow_cast-end : tie.Need-overflow_cast-end invariant-loop-q decreases-loop-q
overflow_cast-end c =
    let pre = c.requires in
    omega (arith, run_few _ _ _ _ _ pre _ _ _ _ c.loop-q.invariant)

slice_bounds-t-count : tie.Need-slice_bounds-t-count invariant-loop-q decreases-loop-q
slice_bounds-t-count c = search search_laws

slice_bounds-t-start : tie.Need-slice_bounds-t-start invariant-loop-q decreases-loop-q
slice_bounds-t-start c = search search_laws

slice_bounds-t-end : tie.Need-slice_bounds-t-end invariant-loop-q decreases-loop-q
slice_bounds-t-end c =
    let pre = c.requires in
    run_within _ _ _ _ _ pre _ _ _ _ c.loop-q.invariant

offset_bounds-starts-p-in-loop-q : tie.Need-offset_bounds-starts-p-in-loop-q invariant-loop-q decreases-loop-q
offset_bounds-starts-p-in-loop-q c =
    let pre = c.requires in
    omega (arith, state_few _ _ _ _ _ pre _ _ _ _ c.loop-q.invariant)

bounds-starts-p-in-loop-q : tie.Need-bounds-starts-p-in-loop-q invariant-loop-q decreases-loop-q
bounds-starts-p-in-loop-q c =
    let pre = c.requires in
    omega (arith, run_known _ _ _ _ _ pre _ _ _ _ c.loop-q.invariant)

overflow_cast-from : tie.Need-overflow_cast-from invariant-loop-q decreases-loop-q
overflow_cast-from c =
    let pre = c.requires in
    omega (arith, run_ordered _ _ _ _ _ pre _ _ _ _ c.loop-q.invariant, run_few _ _ _ _ _ pre _ _ _ _ c.loop-q.invariant)

offset_bounds-targets-p : tie.Need-offset_bounds-targets-p invariant-loop-q decreases-loop-q
offset_bounds-targets-p c =
    let pre = c.requires in
    omega (arith, state_few _ _ _ _ _ pre _ _ _ _ c.loop-q.invariant)

bounds-targets-p : tie.Need-bounds-targets-p invariant-loop-q decreases-loop-q
bounds-targets-p c =
    let pre = c.requires in
    omega (arith, state_few _ _ _ _ _ pre _ _ _ _ c.loop-q.invariant, pre.first.long)

overflow_cast-first : tie.Need-overflow_cast-first invariant-loop-q decreases-loop-q
overflow_cast-first c =
    let pre = c.requires in
    omega (arith, first_bound _ _ _ _ _ pre _ _ _ _ c.loop-q.invariant)

bounds-marks-first : tie.Need-bounds-marks-first invariant-loop-q decreases-loop-q
bounds-marks-first c =
    let pre = c.requires in
    omega (arith, first_bound _ _ _ _ _ pre _ _ _ _ c.loop-q.invariant, c.loop-q.invariant.room.wide)

overflow_cast-marks-then-marks-first-eq0 : tie.Need-overflow_cast-marks-then-marks-first-eq0 invariant-loop-q decreases-loop-q
overflow_cast-marks-then-marks-first-eq0 c =
    let pre = c.requires in
    omega (arith, first_bound _ _ _ _ _ pre _ _ _ _ c.loop-q.invariant)

bounds-marks-q-then-marks-first-eq0 : tie.Need-bounds-marks-q-then-marks-first-eq0 invariant-loop-q decreases-loop-q
bounds-marks-q-then-marks-first-eq0 c =
    let pre = c.requires in
    omega (arith, first_bound _ _ _ _ _ pre _ _ _ _ c.loop-q.invariant, c.loop-q.invariant.room.wide)

overflow_add-from : tie.Need-overflow_add-from invariant-loop-q decreases-loop-q
overflow_add-from c =
    let pre = c.requires in
    omega (arith, run_ordered _ _ _ _ _ pre _ _ _ _ c.loop-q.invariant, run_few _ _ _ _ _ pre _ _ _ _ c.loop-q.invariant)

push_unmet-top-requires : tie.Need-push_unmet-top-requires invariant-loop-q decreases-loop-q
push_unmet-top-requires c κs =
    let pre = c.requires in
    first_asked _ _ _ _ _ pre _ _ _ _ c.loop-q.invariant c.if-marks-first-eq0.true

loop-q-smaller-then-marks-first-eq0 : tie.Need-loop-q-smaller-then-marks-first-eq0 invariant-loop-q decreases-loop-q
loop-q-smaller-then-marks-first-eq0 c =
    let pre = c.requires in
    first_less _ _ _ _ _ pre _ _ _ _ c.loop-q.invariant c.if-marks-first-eq0.true _ c.accept_word.ensures (omega arith) _ _ _ c.push_unmet-top.ensures

loop-q-preserved-then-marks-first-eq0 : tie.Need-loop-q-preserved-then-marks-first-eq0 invariant-loop-q decreases-loop-q
loop-q-preserved-then-marks-first-eq0 c =
    let pre = c.requires in
    search_first _ _ _ _ _ pre _ _ _ _ c.loop-q.invariant c.if-marks-first-eq0.true _ c.accept_word.ensures (omega arith) _ _ _ c.push_unmet-top.ensures

push_unmet-top-requires-else-marks-first-eq0 : tie.Need-push_unmet-top-requires-else-marks-first-eq0 invariant-loop-q decreases-loop-q
push_unmet-top-requires-else-marks-first-eq0 c κs =
    let pre = c.requires in
    all_asked _ _ _ _ _ pre _ _ _ _ c.loop-q.invariant

shape_of-marks-then-top-eq0 : tie.Need-shape_of-marks-then-top-eq0 invariant-loop-q decreases-loop-q
shape_of-marks-then-top-eq0 c = search search_laws

shape_of-stack-then-top-eq0 : tie.Need-shape_of-stack-then-top-eq0 invariant-loop-q decreases-loop-q
shape_of-stack-then-top-eq0 c = search search_laws

returns-then-top-eq0 : tie.Need-returns-then-top-eq0 invariant-loop-q decreases-loop-q
returns-then-top-eq0 c =
    let pre = c.requires in
    search_end _ _ _ _ _ pre _ _ _ _ c.loop-q.invariant _ c.accept_word.ensures (omega arith) _ _ _ c.push_unmet-top-else-marks-first-eq0.ensures c.if-top-eq0.true

overflow_sub-top : tie.Need-overflow_sub-top invariant-loop-q decreases-loop-q
overflow_sub-top c = search search_laws

offset_bounds-stack-top : tie.Need-offset_bounds-stack-top invariant-loop-q decreases-loop-q
offset_bounds-stack-top c = search search_laws

bounds-stack-top : tie.Need-bounds-stack-top invariant-loop-q decreases-loop-q
bounds-stack-top c =
    let pre = c.requires in
    back_place _ _ _ _ _ pre _ _ _ _ c.loop-q.invariant _ c.accept_word.ensures (omega arith) _ _ _ c.push_unmet-top-else-marks-first-eq0.ensures c.if-top-eq0.false

loop-q-smaller : tie.Need-loop-q-smaller invariant-loop-q decreases-loop-q
loop-q-smaller c =
    let pre = c.requires in
    back_less _ _ _ _ _ pre _ _ _ _ c.loop-q.invariant _ c.accept_word.ensures (omega arith) _ _ _ c.push_unmet-top-else-marks-first-eq0.ensures c.if-top-eq0.false

loop-q-preserved : tie.Need-loop-q-preserved invariant-loop-q decreases-loop-q
loop-q-preserved c =
    let pre = c.requires in
    search_back _ _ _ _ _ pre _ _ _ _ c.loop-q.invariant _ c.accept_word.ensures (omega arith) _ _ _ c.push_unmet-top-else-marks-first-eq0.ensures c.if-top-eq0.false

pub explore_spec : {M : Type 1} → statement M
explore_spec =
    tie.close
    (tie.spec
    invariant-loop-q
    decreases-loop-q
    bounds-s-1
    overflow_cast-marks
    bounds-marks-q
    loop-q-init
    accept_word-requires
    (λ c. search search_laws)
    (λ c. search search_laws)
    (λ c.
    let pre = c.requires in
    state_accepts _ _ _ _ _ pre _ _ _ _ c.loop-q.invariant _ c.accept_word.ensures (omega arith))
    overflow_cast-p
    overflow_add-end
    offset_bounds-starts-p
    bounds-starts-p
    overflow_cast-end
    slice_bounds-t-count
    slice_bounds-t-start
    slice_bounds-t-end
    offset_bounds-starts-p-in-loop-q
    bounds-starts-p-in-loop-q
    overflow_cast-from
    offset_bounds-targets-p
    bounds-targets-p
    overflow_cast-first
    bounds-marks-first
    overflow_cast-marks-then-marks-first-eq0
    bounds-marks-q-then-marks-first-eq0
    overflow_add-from
    push_unmet-top-requires
    loop-q-smaller-then-marks-first-eq0
    loop-q-preserved-then-marks-first-eq0
    push_unmet-top-requires-else-marks-first-eq0
    shape_of-marks-then-top-eq0
    shape_of-stack-then-top-eq0
    returns-then-top-eq0
    overflow_sub-top
    offset_bounds-stack-top
    bounds-stack-top
    loop-q-smaller
    loop-q-preserved)
