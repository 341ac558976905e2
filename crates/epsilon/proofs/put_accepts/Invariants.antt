-- The accept words of the states below `p` are written.
use Rattle.stores.specs.Written.{Written}
use Rattle.sheets.specs.Sheet.{read}
use Rattle.epsilon.specs.Eliminate.{closure_kinds}
use Rattle.epsilon.proofs.put_accepts.Given as goal

abbrev pub invariant-loop-p : goal.invariant-loop-p
invariant-loop-p l = Written l.fn.out l.at (closure_kinds (read l.s) l.p) l.out l.end
