-- The states from `q` on are left to write.
use Rattle.std.proofs.Common.{drop}
use Rattle.automata.specs.Automaton.{states}
use Rattle.automata.specs.Records.{write_records}
use Rattle.sheets.specs.Sheet.{state_count, read}
use Rattle.stores.proofs.Left.{Left}
use Rattle.totality.specs.Totality.{filled_in}
use Rattle.totality.proofs.total.put_rows.Given as goal

abbrev pub invariant-loop-q : goal.invariant-loop-q
invariant-loop-q l =
    Left l.fn.out l.at (write_records (filled_in l.lower l.upper (read l.s) (states (state_count l.s)))) l.out l.end
    (write_records (filled_in l.lower l.upper (read l.s) (drop l.q (states (state_count l.s)))))
