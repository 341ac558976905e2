-- `put_symbol` meets its contract: a word has at most ten digits.
use Rattle.verdict_line.proofs.Printing.{symbol_laws}
use Rattle.verdict_line.proofs.lines.put_symbol.Statement.{statement}
use Rattle.verdict_line.proofs.lines.put_symbol.Tie as tie

pub put_symbol_spec : {M : Type 1} → statement M
put_symbol_spec =
    tie.close
    (tie.spec (λ c κs. search symbol_laws) (λ c κs. search symbol_laws) (λ c. search symbol_laws) (λ c. search symbol_laws))
