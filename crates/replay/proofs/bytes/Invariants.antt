-- Each turn stores one byte more.
use Rattle.std.proofs.Common.{◌≡◌, ◌+◌, ◌≤◌, length, take, drop}
use Rattle.stores.specs.Written.{Written}
use Rattle.replay.specs.Cases.{bytes_before}
use Rattle.replay.proofs.bytes.Given as goal

abbrev pub invariant-loop-i : goal.invariant-loop-i
invariant-loop-i l =
    (l.i ≤ length l.initial.out) × Written l.initial.out 0 (take l.i l.list) l.out l.i
    × (l.i + bytes_before (drop l.i (take (length l.initial.out) l.list)) ≡ bytes_before (take (length l.initial.out) l.list))
