-- `put_pair` meets its contract: the four runs that its calls write are the label.
use Rattle.labels.proofs.Putting.{pair_put}
use Rattle.labels.proofs.writing.put_pair.Goals as goal

pub returns : goal.returns
returns c =
    pair_put _ _ _ _ _ _ _ _ _ _ _ _ _ _ c.put_number-first.ensures.written c.put-comma.ensures c.put_number-second.ensures.written
    c.put-end.ensures c.put_length.ensures
