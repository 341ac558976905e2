-- `with_more` meets its contract: the records are copied, and the reading goes on.
use Rattle.parser.proofs.ReadInvariant.{more_table, more_held, more_long, more_read}
use Rattle.parser.proofs.with_more.Goals as goal

pub read_rest-read-requires : goal.read_rest-read-requires
read_rest-read-requires c =
    let s = c.requires.spelt.1 in
    let w = c.put_all.ensures in
    (more_table _ _ _ _ _ _ s _ _ w, more_held _ _ _ _ _ _ s _ _ w, more_long _ _ _ _ _ _ s _ _ w)

pub with_read-requires-clause-spelt : goal.with_read-requires-clause-spelt
with_read-requires-clause-spelt c =
    (c.requires.spelt.0, more_read _ _ _ _ _ _ c.requires.spelt.1 _ _ c.put_all.ensures _ _ _ c.read_rest-read.ensures, c.requires.spelt.2)
