-- `eliminate_within` meets its contract: the tables are those of the sheet.
use Rattle.std.proofs.Common.{rules, arith}
use Rattle.words.proofs.Epsilons.{fresh_zeros}
use Rattle.words.proofs.Reading.{begin_tables}
use Rattle.epsilon.proofs.eliminate_within.Goals as goal

pub state_closures-requires : goal.state_closures-requires
state_closures-requires g c = (c.requires.4.accepted, fresh_zeros c.args.s.now _ c.requires.2)

pub eliminate_tables-requires : goal.eliminate_tables-requires
eliminate_tables-requires g c =
    let x = c.requires in
    let e = c.state_closures.ensures in
    (begin_tables _ _ _ _ x.4.accepted c.run_starts.ensures (omega arith) e.0 e.1, search rules, search rules)
