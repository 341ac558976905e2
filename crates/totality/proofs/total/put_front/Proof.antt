-- `put_front` meets its contract: the sink's accept word and the count stand behind the accept words.
use Rattle.totality.proofs.Writing.{front_laws, count_room}
use Rattle.totality.proofs.total.put_front.Statement.{statement}
use Rattle.totality.proofs.total.put_front.Tie as tie

pub put_front_spec : {M : Type 1} → statement M
put_front_spec =
    tie.close
    (tie.spec (λ c. search front_laws) (λ c. search front_laws) (λ c κs. search front_laws) (λ c κs. search front_laws) (λ c κs. search front_laws)
    (λ c κs. (search front_laws, count_room _ c.requires.0 _ _ _ _ c.put_head-sink.ensures _ _ _ c.put-at.ensures c.requires.1 c.requires.2))
    (λ c. search front_laws) (λ c. search front_laws))
