-- By the laws of the table of labels.
use Rattle.std.proofs.Common.{rules}
use Rattle.writer.proofs.Naming.{listed_next, listed_laws}
use Rattle.writer.proofs.names.are_names.Goals as goal

pub loop-i-init : goal.loop-i-init
loop-i-init c = search listed_laws

pub returns-then-not-is_name : goal.returns-then-not-is_name
returns-then-not-is_name c = search listed_laws

pub next_label-next-requires : goal.next_label-next-requires
next_label-next-requires c = search listed_laws

pub add-requires : goal.add-requires
add-requires c = (search listed_laws, search listed_laws, search listed_laws)

pub returns-in_default : goal.returns-in_default
returns-in_default c = search listed_laws

pub returns-then-k-i : goal.returns-then-k-i
returns-then-k-i c = search listed_laws

pub loop-i-preserved : goal.loop-i-preserved
loop-i-preserved c =
    listed_next _ _ _ _ c.args.labels.placed c.requires.0 c.loop-i-test.true _ c.next_label-next.ensures _ _ c.loop-i.invariant _ c.add.ensures _ c.in-Some.is c.if-k-i.false
    _ c.label.ensures _ c.is_name.ensures (search rules)

pub returns : goal.returns
returns c = search listed_laws
