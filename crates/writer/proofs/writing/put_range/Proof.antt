-- `put_range` meets its contract: the five runs that its calls write are the text.
use Rattle.writer.proofs.Putting.{range_put, range_laws}
use Rattle.writer.proofs.writing.put_range.Statement.{statement}
use Rattle.writer.proofs.writing.put_range.Tie as tie

pub put_range_spec : {M : Type 1} → statement M
put_range_spec =
    tie.close
    (tie.spec
    (λ c κs. search range_laws) (λ c κs. search range_laws) (λ c κs. search range_laws)
    (λ c κs. search range_laws) (λ c κs. search range_laws) (λ c. search range_laws)
    (λ c.
    range_put _ _ _ _ c.requires _ _ c.put_all-first.ensures _ _ c.put_decimal-comma.ensures _ _ c.put_all-last.ensures
    _ _ c.put_decimal-end.ensures _ _ c.put_all.ensures))
