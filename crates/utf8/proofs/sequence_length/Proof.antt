-- `utf8::sequence_length` meets its contract: each count of ones at the top gives its length.
use borrow.Author.Rules.{rules}
use Rattle.utf8.proofs.Lead.{ones_0, ones_2, ones_3, ones_4, ones_other}
use Rattle.utf8.proofs.sequence_length.Statement.{statement}
use Rattle.utf8.proofs.sequence_length.Tie as tie

returns-in_default : tie.Need-returns-in_default
returns-in_default c = let r = c.in_default.in_default-own.rest in ones_other _ c.ranges.b.fits r.0.0.0.1 r.0.0.1 r.0.1 r.1

pub sequence_length_spec : {M : Type 1} → statement M
sequence_length_spec = tie.close (tie.spec (λ c. search (ones_0, rules)) (λ c. search (ones_2, rules)) (λ c. search (ones_3, rules)) (λ c. search (ones_4, rules)) returns-in_default)
