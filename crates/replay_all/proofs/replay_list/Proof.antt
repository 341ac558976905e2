-- `replay_list` meets its contract: each turn counts one case, and leaves one less.
use borrow.Author.Rules.{rules}
use Rattle.replay.specs.Counting.{Bounded}
use Rattle.replay_all.specs.Agreement.{Counted}
use Rattle.replay_all.proofs.Cases.{count_laws}
use Rattle.replay_all.proofs.replay_list.Statement.{statement}
use Rattle.replay_all.proofs.replay_list.Tie as tie

abbrev invariant-loop-t : tie.invariant-loop-t
invariant-loop-t kind text t₀ t = Bounded t × Counted kind text t

abbrev decreases-loop-t : tie.decreases-loop-t
decreases-loop-t kind text t₀ t = t.left

pub replay_list_spec : {M : Type 1} → statement M
replay_list_spec =
    tie.close
    (tie.spec invariant-loop-t decreases-loop-t (λ c κs. search rules) (λ c. search count_laws) (λ c κs. search rules) (λ c. search count_laws) (λ c. search count_laws)
    (λ c. search count_laws))
