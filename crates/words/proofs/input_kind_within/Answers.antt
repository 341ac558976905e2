-- `input_kind_within` meets its contract: the set at the end is the simulation from the start.
use Rattle.std.proofs.Common.{rules}
use Rattle.words.proofs.Answers.{word_done, start_canon, end_canon}
use Rattle.words.proofs.Epsilons.{fresh_zeros}
use Rattle.words.proofs.input_kind_within.Goals as goal

pub begin-requires : goal.begin-requires
begin-requires g c = search (fresh_zeros, rules)

pub read_input-requires : goal.read_input-requires
read_input-requires g c = let e = c.begin.ensures in (e.0, start_canon _ _ _ _ e.0 e.1, search rules, c.requires.3)

pub kind_of-requires : goal.kind_of-requires
kind_of-requires g c =
    let e = c.begin.ensures in
    (e.0.accepted, end_canon _ _ _ _ _ _ e.0 (start_canon _ _ _ _ e.0 e.1) c.read_input.ensures, search rules)

pub returns : goal.returns
returns g c = search (word_done, rules)
