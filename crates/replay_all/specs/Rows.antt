-- Cases of closures: a sheet, then the closure of each of its states as a list.
use Rattle.std.specs.Prelude.{ℕ, Bool, false, cond, List, [], ◌∷◌, eqb, leb, length}
use Rattle.labels.specs.Labels.{same_label}
use Rattle.replay.specs.Cases.{list_at}
use Rattle.sets.specs.Sets.{Set}
use Rattle.sheets.specs.Fault.{fault}
use Rattle.sheets.specs.Sheet.{read}
use Rattle.words.specs.Simulation.{closures}
use Rattle.replay_all.specs.Parts.{behind_list}

-- the lists of the case from the place on are the sets, and nothing stands behind them
unfoldable pub are_rows : List Set → List ℕ → ℕ → Bool
are_rows [] s at = eqb at (length s)
are_rows (S ∷ T) s at = cond (leb (length s) at) false (cond (same_label (list_at s at) S) (are_rows T s (behind_list s at)) false)

unfoldable pub closures_case : List ℕ → Bool
closures_case s = cond (eqb (fault (list_at s 0)) 0) (are_rows (closures (read (list_at s 0))) s (behind_list s 0)) false
