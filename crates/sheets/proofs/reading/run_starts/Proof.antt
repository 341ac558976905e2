-- `run_starts` meets its contract: the table so far has the first record of each state below `q`.
use Prim.Native.Nat.{◌+◌, ◌-◌, ◌≤◌}
use mathlib.Core.Path.{◌≡◌}
use native.Mathlib.Omega.{arith}
use lib.ListN.{length, take, drop, length-set}
use Rattle.sheets.specs.inner.Runs.{starts_below}
use Rattle.sheets.specs.Sheet.{state_count, records_at}
use Rattle.sheets.proofs.Below.{Greatest, ends_begin}
use Rattle.sheets.proofs.Named.{sheet_named}
use Rattle.sheets.proofs.Runs.{starts_laws, starts_rising, starts_few, starts_small, starts_small_too, starts_last, starts_ended, starts_two, greatest_two}
use Rattle.sheets.proofs.reading.run_starts.Statement.{statement}
use Rattle.sheets.proofs.reading.run_starts.Tie as tie

abbrev invariant-loop-q : tie.invariant-loop-q
invariant-loop-q s starts₀ n base first ends q₀ k₀ starts q k =
    (q ≤ state_count s + 1) × (length starts ≡ length starts₀) × (starts ≡ starts_below s starts₀ q) × Greatest (take (length s - records_at s) (drop (records_at s) s)) ends q k

abbrev decreases-loop-q : tie.decreases-loop-q
decreases-loop-q s starts₀ n base first ends q₀ k₀ starts q k = state_count s + 1 - q

bounds-s-2 : tie.Need-bounds-s-2 invariant-loop-q decreases-loop-q
bounds-s-2 c = search starts_laws

overflow_add-base : tie.Need-overflow_add-base invariant-loop-q decreases-loop-q
overflow_add-base c = search starts_laws

overflow_cast-first : tie.Need-overflow_cast-first invariant-loop-q decreases-loop-q
overflow_cast-first c = search starts_laws

offset_bounds-s-first : tie.Need-offset_bounds-s-first invariant-loop-q decreases-loop-q
offset_bounds-s-first c = search starts_laws

slice_bounds-mark_ends-count : tie.Need-slice_bounds-mark_ends-count invariant-loop-q decreases-loop-q
slice_bounds-mark_ends-count c = search starts_laws

slice_bounds-mark_ends-start : tie.Need-slice_bounds-mark_ends-start invariant-loop-q decreases-loop-q
slice_bounds-mark_ends-start c = search starts_laws

slice_bounds-mark_ends-end : tie.Need-slice_bounds-mark_ends-end invariant-loop-q decreases-loop-q
slice_bounds-mark_ends-end c = search starts_laws

slice_bounds-mark_ends-end-2 : tie.Need-slice_bounds-mark_ends-end-2 invariant-loop-q decreases-loop-q
slice_bounds-mark_ends-end-2 c = search starts_laws

mark_ends-requires : tie.Need-mark_ends-requires invariant-loop-q decreases-loop-q
mark_ends-requires c κs = let a = c.requires.0 in (starts_rising _ a, sheet_named _ a, starts_few _ a, ends_begin _)

loop-q-init : tie.Need-loop-q-init invariant-loop-q decreases-loop-q
loop-q-init c = search starts_laws

overflow_cast-p : tie.Need-overflow_cast-p invariant-loop-q decreases-loop-q
overflow_cast-p c = search starts_laws

offset_bounds-ends-p : tie.Need-offset_bounds-ends-p invariant-loop-q decreases-loop-q
offset_bounds-ends-p c = search starts_laws

bounds-ends-p : tie.Need-bounds-ends-p invariant-loop-q decreases-loop-q
bounds-ends-p c = search starts_laws

overflow_add-next : tie.Need-overflow_add-next invariant-loop-q decreases-loop-q
overflow_add-next c = search starts_laws

offset_bounds-ends-p-in-loop-q : tie.Need-offset_bounds-ends-p-in-loop-q invariant-loop-q decreases-loop-q
offset_bounds-ends-p-in-loop-q c = search starts_laws

bounds-ends-p-in-loop-q : tie.Need-bounds-ends-p-in-loop-q invariant-loop-q decreases-loop-q
bounds-ends-p-in-loop-q c = search starts_laws

greater-requires : tie.Need-greater-requires invariant-loop-q decreases-loop-q
greater-requires c κs = search starts_laws

overflow_mul-starts : tie.Need-overflow_mul-starts invariant-loop-q decreases-loop-q
overflow_mul-starts c =
    let pre = c.requires in
    omega (arith, pre.0.few_states, starts_small _ pre.0 _ c.mark_ends.ensures _ _ c.loop-q.invariant.3 _ c.greater.ensures)

overflow_add-starts : tie.Need-overflow_add-starts invariant-loop-q decreases-loop-q
overflow_add-starts c =
    let pre = c.requires in
    omega (arith, pre.0.few_states, starts_small _ pre.0 _ c.mark_ends.ensures _ _ c.loop-q.invariant.3 _ c.greater.ensures)

offset_bounds-starts-p : tie.Need-offset_bounds-starts-p invariant-loop-q decreases-loop-q
offset_bounds-starts-p c = search starts_laws

bounds-starts-p : tie.Need-bounds-starts-p invariant-loop-q decreases-loop-q
bounds-starts-p c = search starts_laws

greater-requires-in-loop-q : tie.Need-greater-requires-in-loop-q invariant-loop-q decreases-loop-q
greater-requires-in-loop-q c κs = search starts_laws

greater-k-requires : tie.Need-greater-k-requires invariant-loop-q decreases-loop-q
greater-k-requires c κs = search starts_laws

overflow_mul-starts-in-loop-q : tie.Need-overflow_mul-starts-in-loop-q invariant-loop-q decreases-loop-q
overflow_mul-starts-in-loop-q c =
    let pre = c.requires in
    omega (arith, pre.0.few_states, starts_small_too _ pre.0 _ c.mark_ends.ensures _ _ c.loop-q.invariant.3 _ c.greater.ensures _ c.greater-in-loop-q.ensures _ c.greater-k.ensures)

overflow_add-starts-in-loop-q : tie.Need-overflow_add-starts-in-loop-q invariant-loop-q decreases-loop-q
overflow_add-starts-in-loop-q c =
    let pre = c.requires in
    omega (arith, pre.0.few_states, starts_small_too _ pre.0 _ c.mark_ends.ensures _ _ c.loop-q.invariant.3 _ c.greater.ensures _ c.greater-in-loop-q.ensures _ c.greater-k.ensures)

overflow_add-starts-in-loop-q-2 : tie.Need-overflow_add-starts-in-loop-q-2 invariant-loop-q decreases-loop-q
overflow_add-starts-in-loop-q-2 c = search starts_laws

offset_bounds-starts-p-in-loop-q : tie.Need-offset_bounds-starts-p-in-loop-q invariant-loop-q decreases-loop-q
offset_bounds-starts-p-in-loop-q c = search starts_laws

bounds-starts-p-in-loop-q : tie.Need-bounds-starts-p-in-loop-q invariant-loop-q decreases-loop-q
bounds-starts-p-in-loop-q c =
    simp length-set (omega (arith, c.loop-q-test.true, c.loop-q.invariant.1, c.requires.1))

overflow_add-q : tie.Need-overflow_add-q invariant-loop-q decreases-loop-q
overflow_add-q c = search starts_laws

loop-q-smaller : tie.Need-loop-q-smaller invariant-loop-q decreases-loop-q
loop-q-smaller c = search starts_laws

loop-q-preserved : tie.Need-loop-q-preserved invariant-loop-q decreases-loop-q
loop-q-preserved c =
    let a = c.requires.0 in
    let marked = c.mark_ends.ensures in
    let first = c.greater.ensures in
    let both = c.greater-in-loop-q.ensures in
    (omega (arith, c.loop-q-test.true), search starts_laws, starts_two _ a _ marked _ _ c.loop-q.invariant.3 _ first _ both _ c.greater-k.ensures _ _ c.loop-q.invariant.2, greatest_two _ a _ marked _ _ c.loop-q.invariant.3 _ first _ both _ c.greater-k.ensures)

overflow_cast-p-then-q-n : tie.Need-overflow_cast-p-then-q-n invariant-loop-q decreases-loop-q
overflow_cast-p-then-q-n c = search starts_laws

offset_bounds-ends-p-then-q-n : tie.Need-offset_bounds-ends-p-then-q-n invariant-loop-q decreases-loop-q
offset_bounds-ends-p-then-q-n c = search starts_laws

bounds-ends-p-then-q-n : tie.Need-bounds-ends-p-then-q-n invariant-loop-q decreases-loop-q
bounds-ends-p-then-q-n c = search starts_laws

greater-requires-then-q-n : tie.Need-greater-requires-then-q-n invariant-loop-q decreases-loop-q
greater-requires-then-q-n c κs = search starts_laws

overflow_mul-starts-then-q-n : tie.Need-overflow_mul-starts-then-q-n invariant-loop-q decreases-loop-q
overflow_mul-starts-then-q-n c =
    let pre = c.requires in
    omega (arith, pre.0.few_states, starts_small _ pre.0 _ c.mark_ends.ensures _ _ c.loop-q.invariant.3 _ c.greater-then-q-n.ensures)

overflow_add-starts-then-q-n : tie.Need-overflow_add-starts-then-q-n invariant-loop-q decreases-loop-q
overflow_add-starts-then-q-n c =
    let pre = c.requires in
    omega (arith, pre.0.few_states, starts_small _ pre.0 _ c.mark_ends.ensures _ _ c.loop-q.invariant.3 _ c.greater-then-q-n.ensures)

offset_bounds-starts-p-then-q-n : tie.Need-offset_bounds-starts-p-then-q-n invariant-loop-q decreases-loop-q
offset_bounds-starts-p-then-q-n c = search starts_laws

bounds-starts-p-then-q-n : tie.Need-bounds-starts-p-then-q-n invariant-loop-q decreases-loop-q
bounds-starts-p-then-q-n c = search starts_laws

shape_of-starts-then-q-n : tie.Need-shape_of-starts-then-q-n invariant-loop-q decreases-loop-q
shape_of-starts-then-q-n c = search starts_laws

returns-then-q-n : tie.Need-returns-then-q-n invariant-loop-q decreases-loop-q
returns-then-q-n c =
    starts_last _ c.requires.0 _ c.mark_ends.ensures _ _ c.loop-q.invariant.3 _ c.greater-then-q-n.ensures _ _ c.loop-q.invariant.2 (omega (arith, c.if-q-n.true)) (omega (arith, c.if-q-n.true))

shape_of-starts-else-q-n : tie.Need-shape_of-starts-else-q-n invariant-loop-q decreases-loop-q
shape_of-starts-else-q-n c = search starts_laws

returns-else-q-n : tie.Need-returns-else-q-n invariant-loop-q decreases-loop-q
returns-else-q-n c =
    let turn = c.loop-q.invariant in
    starts_ended _ _ _ _ turn.2 (omega (arith, c.loop-q-test.false, c.if-q-n.false)) turn.0

pub run_starts_spec : {M : Type 1} → statement M
run_starts_spec =
    tie.close
    (tie.spec
    invariant-loop-q
    decreases-loop-q
    bounds-s-2
    overflow_add-base
    overflow_cast-first
    offset_bounds-s-first
    slice_bounds-mark_ends-count
    slice_bounds-mark_ends-start
    slice_bounds-mark_ends-end
    slice_bounds-mark_ends-end-2
    mark_ends-requires
    loop-q-init
    overflow_cast-p
    offset_bounds-ends-p
    bounds-ends-p
    overflow_add-next
    offset_bounds-ends-p-in-loop-q
    bounds-ends-p-in-loop-q
    greater-requires
    overflow_mul-starts
    overflow_add-starts
    offset_bounds-starts-p
    bounds-starts-p
    greater-requires-in-loop-q
    greater-k-requires
    overflow_mul-starts-in-loop-q
    overflow_add-starts-in-loop-q
    overflow_add-starts-in-loop-q-2
    offset_bounds-starts-p-in-loop-q
    bounds-starts-p-in-loop-q
    overflow_add-q
    loop-q-smaller
    loop-q-preserved
    overflow_cast-p-then-q-n
    offset_bounds-ends-p-then-q-n
    bounds-ends-p-then-q-n
    greater-requires-then-q-n
    overflow_mul-starts-then-q-n
    overflow_add-starts-then-q-n
    offset_bounds-starts-p-then-q-n
    bounds-starts-p-then-q-n
    shape_of-starts-then-q-n
    returns-then-q-n
    shape_of-starts-else-q-n
    returns-else-q-n)
