-- The bits of all words together decide.
use Rattle.std.proofs.Common.{rules}
use Rattle.sheets.proofs.Checking.{accept_folded}
use Rattle.sheets.proofs.are_accept_words.Goals as goal

pub returns : goal.returns
returns c = search (accept_folded, rules)
