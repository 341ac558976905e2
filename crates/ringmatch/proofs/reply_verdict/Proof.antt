-- `reply_verdict` meets its contract: the answer is passed on.
use Rattle.ringmatch.proofs.Replies.{verdicts}
use Rattle.ringmatch.proofs.reply_verdict.Statement.{statement}
use Rattle.ringmatch.proofs.reply_verdict.Tie as tie

pub reply_verdict_spec : {M : Type 1} → statement M
reply_verdict_spec =
    tie.close
    (tie.spec (λ c. search verdicts) (λ c. search verdicts) (λ c. search verdicts) (λ c κs. search verdicts) (λ c. search verdicts) (λ c. search verdicts) (λ c. search verdicts))
