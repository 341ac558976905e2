-- `holes_of` meets its contract: in an accepted sheet the first run has sorted ranges.
use mathlib.Core.Path.{refl}
use borrow.Author.Rules.{rules}
use Rattle.replay_all.proofs.Sheets.{first_run, run_sorted, run_short}
use Rattle.replay_all.proofs.Spans.{hole_laws}
use Rattle.replay_all.proofs.symbols.holes_of.Statement.{statement}
use Rattle.replay_all.proofs.symbols.holes_of.Tie as tie

run-run-requires : tie.Need-run-run-requires
run-run-requires c κs = first_run _ c.requires _ _ c.run_starts.ensures refl

are_holes-requires : tie.Need-are_holes-requires
are_holes-requires c κs =
    let a = c.requires in
    let e = c.run-run.ensures in
    (run_sorted _ a _ e, run_short _ a _ e)

pub holes_of_spec : {M : Type 1} → statement M
holes_of_spec =
    tie.close
    (tie.spec (λ c. search hole_laws) (λ c. search rules) (λ c κs. search rules) (λ c. search rules) (λ c. search rules) (λ c. search hole_laws)
    (λ c. search rules) (λ c κs. search rules) (λ c. search rules) run-run-requires (λ c. search rules) (λ c. search rules) (λ c κs. search rules)
    (λ c κs. search rules) are_holes-requires (λ c. search hole_laws) (λ c. search hole_laws))
