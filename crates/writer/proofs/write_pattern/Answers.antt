-- No record is an epsilon, and the tables are made.
use Rattle.std.proofs.Common.{ℕ}
use Rattle.std.proofs.lemmas.List.{length-replicate}
use Rattle.writer.proofs.Answers.{pattern_laws}
use Rattle.writer.proofs.Places.{labels_placed}
use Rattle.writer.proofs.write_pattern.Goals as goal

pub returns-then-has_epsilon : goal.returns-then-has_epsilon
returns-then-has_epsilon c = search pattern_laws

pub mark_states-requires : goal.mark_states-requires
mark_states-requires c = (search pattern_laws, search pattern_laws)

pub invariant_of-list : goal.invariant_of-list
invariant_of-list c =
    record { placed = labels_placed _ _ _ _ c.requires.1 c.requires.0.few_states (length-replicate {A = ℕ} 256 0) c.label_places.ensures }

pub returns : goal.returns
returns c = search pattern_laws
