-- `ringmatch_accepts_words` meets its contract: the answer is passed on.
use Rattle.ringmatch.proofs.Replies.{replies}
use Rattle.ringmatch.proofs.ringmatch_accepts_words.Statement.{statement}
use Rattle.ringmatch.proofs.ringmatch_accepts_words.Tie as tie

pub ringmatch_accepts_words_spec : {M : Type 1} → statement M
ringmatch_accepts_words_spec =
    tie.close
    (tie.spec (λ c κs. search replies) (λ c κs. search replies) (λ c. search replies))
