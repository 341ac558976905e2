-- The members from `q` on are those that are listed from `i` on.
use Rattle.std.proofs.Common.{◌≡◌, ◌*◌, ◌≤◌, length, drop}
use Rattle.labels.specs.Labels.{same_label}
use Rattle.sets.specs.inner.BitSet.{set_at}
use Rattle.sets.specs.inner.Members.{members_from}
use Rattle.replay_all.proofs.closures.is_row.Given as goal

abbrev pub invariant-loop-q : goal.invariant-loop-q
invariant-loop-q l =
    (l.i ≤ length l.members) × (same_label l.members (set_at l.rows (4 * l.p)) ≡ same_label (drop l.i l.members) (members_from l.q (set_at l.rows (4 * l.p))))
