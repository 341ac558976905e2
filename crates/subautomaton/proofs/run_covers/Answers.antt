-- A record that ends too early is passed, and none covers from the first on that starts too late.
use Rattle.std.proofs.Common.{refl, rules}
use Rattle.automata.proofs.Chunks.{records_are}
use Rattle.subautomaton.proofs.Matching.{run_laws}
use Rattle.subautomaton.proofs.run_covers.Goals as goal

pub loop-e-init : goal.loop-e-init
loop-e-init c = rw (records_are _ _ c.as_chunks.ensures.front) (record { ordered = c.requires.2; left = refl })

pub loop-e-preserved-then-e-last : goal.loop-e-preserved-then-e-last
loop-e-preserved-then-e-last c = record { ordered = search run_laws; left = search run_laws }

pub returns-then-first-e : goal.returns-then-first-e
returns-then-first-e c = search run_laws

pub covers-requires : goal.covers-requires
covers-requires c = (search rules, search rules, search rules, search run_laws)

pub returns-then-covers : goal.returns-then-covers
returns-then-covers c = search run_laws

pub loop-e-preserved : goal.loop-e-preserved
loop-e-preserved c = record { ordered = search run_laws; left = search run_laws }

pub returns : goal.returns
returns c = search run_laws
