-- `utf8::least_value` meets its contract.
use mathlib.Core.Path.{sym, ap}
use Rattle.utf8.specs.Utf8.{least_value}
use Rattle.utf8.proofs.Lead.{least_other}
use Rattle.utf8.proofs.least_value.Statement.{statement}
use Rattle.utf8.proofs.least_value.Tie as tie

returns-in-2 : tie.Need-returns-in-2
unfolding least_value
returns-in-2 c = sym (ap least_value c.in-2.is)

returns-in-3 : tie.Need-returns-in-3
unfolding least_value
returns-in-3 c = sym (ap least_value c.in-3.is)

returns-in-4 : tie.Need-returns-in-4
unfolding least_value
returns-in-4 c = sym (ap least_value c.in-4.is)

returns-in_default : tie.Need-returns-in_default
returns-in_default c = let r = c.in_default.in_default-own.rest in least_other _ r.0.0.1 r.0.1 r.1

pub least_value_spec : {M : Type 1} → statement M
least_value_spec = tie.close (tie.spec returns-in-2 returns-in-3 returns-in-4 returns-in_default)
