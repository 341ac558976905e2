-- `rest_are_states` meets its contract: each turn adds a name, and the names of a full table are asked.
use Rattle.std.proofs.Common.{rules}
use Rattle.grammar.proofs.Many.{names_less}
use Rattle.parser.proofs.Spelling.{rest_laws, rest_room, rest_added, rest_not, rest_anew}
use Rattle.parser.proofs.Tables.{added_table, table_none}
use Rattle.parser.proofs.accepts.rest_are_states.Goals as goal

pub returns-in_default : goal.returns-in_default
returns-in_default c = search rest_laws

pub add_name-requires : goal.add_name-requires
add_name-requires c = search rest_laws

pub returns-in_default-add_name : goal.returns-in_default-add_name
returns-in_default-add_name c = rest_room _ _ _ _ c.next_name.ensures _ _ _ c.loop-y.invariant.2 _ _ c.in-Some.is _ _ c.add_name.ensures c.loop-y.invariant.1 c.in_default-add_name.is

pub table_are_states-requires-then-k-ge256 : goal.table_are_states-requires-then-k-ge256
table_are_states-requires-then-k-ge256 c = (added_table _ _ _ _ c.add_name.ensures _ c.in-Some-add_name.is, c.requires.2)

pub returns-then-not-table_are_states : goal.returns-then-not-table_are_states
returns-then-not-table_are_states c = rest_not _ _ _ _ c.next_name.ensures _ _ _ c.loop-y.invariant.2 _ _ c.in-Some.is _ _ c.add_name.ensures _ c.in-Some-add_name.is _ c.table_are_states-then-k-ge256.ensures (search rules)

pub loop-y-smaller-then-k-ge256 : goal.loop-y-smaller-then-k-ge256
loop-y-smaller-then-k-ge256 c = names_less _ _ _ c.next_name.ensures _ _ c.in-Some.is

pub loop-y-preserved-then-k-ge256 : goal.loop-y-preserved-then-k-ge256
loop-y-preserved-then-k-ge256 c = (table_none _ _ (added_table _ _ _ _ c.add_name.ensures _ c.in-Some-add_name.is).room, search rest_laws, rest_anew _ _ _ _ c.next_name.ensures _ _ _ c.loop-y.invariant.2 _ _ c.in-Some.is _ _ c.add_name.ensures _ c.in-Some-add_name.is _ c.table_are_states-then-k-ge256.ensures (search rules))

pub loop-y-smaller : goal.loop-y-smaller
loop-y-smaller c = names_less _ _ _ c.next_name.ensures _ _ c.in-Some.is

pub loop-y-preserved : goal.loop-y-preserved
loop-y-preserved c = (added_table _ _ _ _ c.add_name.ensures _ c.in-Some-add_name.is, search rest_laws, rest_added _ _ _ _ c.next_name.ensures _ _ _ c.loop-y.invariant.2 _ _ c.in-Some.is _ _ c.add_name.ensures _ c.in-Some-add_name.is)
