-- The events of the records from `number` on are left to write.
use Rattle.std.proofs.Common.{◌-◌}
use Rattle.automata.specs.Records.{write_records}
use Rattle.sheets.specs.inner.Accepted.{record_count}
use Rattle.stores.proofs.Left.{Left}
use Rattle.sweep.specs.inner.Events.{event_number, events, events_from}
use Rattle.sweep.proofs.ordering.put_events.Given as goal

abbrev pub invariant-loop-number : goal.invariant-loop-number
invariant-loop-number l =
    Left l.initial.out 0 (write_records (events (event_number l.kind) l.s)) l.out l.end (write_records (events_from (event_number l.kind) l.s (record_count l.s - l.number) l.number))
