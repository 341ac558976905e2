-- The states are gathered, and some accept.
use Rattle.std.proofs.Common.{refl}
use Rattle.writer.proofs.Answers.{ready, marked_laws}
use Rattle.writer.proofs.write_marked.Goals as goal

pub slice_bounds-gather_accepting-end : goal.slice_bounds-gather_accepting-end
slice_bounds-gather_accepting-end c = search marked_laws

pub gather_accepting-k-requires : goal.gather_accepting-k-requires
gather_accepting-k-requires c = (search marked_laws, search marked_laws, search marked_laws)

pub returns-then-k-eq0 : goal.returns-then-k-eq0
returns-then-k-eq0 c = search marked_laws

pub slice_bounds-write_ready-end-2 : goal.slice_bounds-write_ready-end-2
slice_bounds-write_ready-end-2 c = search marked_laws

pub write_ready-requires : goal.write_ready-requires
write_ready-requires c = (
  ready _ _ _ _ c.requires.0 c.gather_written-n.ensures refl _ _ _ c.gather_accepting-k.ensures refl c.if-k-eq0.false _ c.requires.1,
  search marked_laws,
  search marked_laws,
)

pub returns : goal.returns
returns c = search marked_laws
