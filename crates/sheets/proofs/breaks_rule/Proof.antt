-- `breaks_rule` meets its contract: in one arm the kind is 1.
use Rattle.sheets.proofs.Checking.{kind_laws}
use Rattle.sheets.proofs.breaks_rule.Statement.{statement}
use Rattle.sheets.proofs.breaks_rule.Tie as tie

pub breaks_rule_spec : {M : Type 1} → statement M
breaks_rule_spec = tie.close (tie.spec (λ c κs. search kind_laws) (λ c. search kind_laws) (λ c κs. search kind_laws) (λ c. search kind_laws))
