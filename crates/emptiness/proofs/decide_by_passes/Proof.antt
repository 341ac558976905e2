-- `decide_by_passes` meets its contract: the start alone is met before the first pass.
use mathlib.Core.Path.{◌∙◌}
use lib.ListN.{length-set}
use Rattle.emptiness.proofs.Passes.{start_laws, tells_met}
use Rattle.emptiness.proofs.decide_by_passes.Statement.{statement}
use Rattle.emptiness.proofs.decide_by_passes.Tie as tie

pub decide_by_passes_spec : {M : Type 1} → statement M
decide_by_passes_spec =
    tie.close
    (tie.spec (λ c. search start_laws) (λ c κs. search start_laws) (λ c. search start_laws) (λ c. search start_laws) (λ c. search start_laws)
    (λ c κs. search start_laws) (λ c. search start_laws) (λ c. let g = c.marks-1.given in rw length-set at g) (λ c. search start_laws)
    (λ c κs. (c.requires.0, tells_met _ _ _ c.pass_up-up.ensures c.in-Undecided.is))
    (λ c. let g = c.marks-1.given in c.marks-2-1.given ∙ (rw length-set at g)) (λ c. search start_laws))
