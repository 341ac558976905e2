-- Each record names states below 256, and those behind it are left.
use Rattle.std.proofs.Common.{refl, rules}
use Rattle.automata.proofs.Chunks.{records_are}
use Rattle.subautomaton.proofs.Matching.{records_laws}
use Rattle.subautomaton.proofs.are_covered.Goals as goal

pub loop-d-init : goal.loop-d-init
loop-d-init c = rw (records_are _ _ c.as_chunks.ensures.front) refl

pub is_covered-requires : goal.is_covered-requires
is_covered-requires c = (search rules, search rules, search rules, search rules, search records_laws, search records_laws)

pub returns-then-not-is_covered : goal.returns-then-not-is_covered
returns-then-not-is_covered c = search records_laws

pub loop-d-preserved : goal.loop-d-preserved
loop-d-preserved c = search records_laws

pub returns : goal.returns
returns c = search records_laws
