-- `write_sheet` meets its contract: the parts stand one behind the other.
use borrow.Author.Rules.{rules}
use Rattle.parser.proofs.Reading.{sheet_written}
use Rattle.parser.proofs.write_sheet.Statement.{statement}
use Rattle.parser.proofs.write_sheet.Tie as tie

pub write_sheet_spec : {M : Type 1} → statement M
write_sheet_spec =
    tie.close
    (tie.spec (λ c. search rules) (λ c κs. search rules) (λ c κs. search rules) (λ c. search rules) (λ c κs. search rules) (λ c κs. search rules)
    (λ c. search rules) (λ c. search (rules, sheet_written)))
