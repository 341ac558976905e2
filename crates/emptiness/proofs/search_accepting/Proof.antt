-- `search_accepting` meets its contract: no state is met before the search.
use Rattle.emptiness.proofs.Answers.{reached_laws, all_ready}
use Rattle.emptiness.proofs.search_accepting.Statement.{statement}
use Rattle.emptiness.proofs.search_accepting.Tie as tie

explore-requires : tie.Need-explore-requires
explore-requires c κs =
    all_ready _ _ _ _ c.requires c.run_starts.ensures (search reached_laws) c.first_targets.ensures

pub search_accepting_spec : {M : Type 1} → statement M
search_accepting_spec =
    tie.close
    (tie.spec (λ c. search reached_laws) (λ c κs. search reached_laws) (λ c. search reached_laws) (λ c. search reached_laws)
    (λ c κs. search reached_laws) (λ c. search reached_laws) (λ c. search reached_laws) (λ c. search reached_laws) (λ c. search reached_laws) explore-requires
    (λ c. search reached_laws))
