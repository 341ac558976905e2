-- What the loop of `token` keeps: the bytes of the word before the index stand in the text.
use Rattle.std.proofs.Common.{◌≡◌, ◌+◌, drop}
use Rattle.grammar.specs.Grammar.{begins}
use Rattle.grammar.proofs.tokens.token.Given as goal

abbrev pub invariant-loop-b : goal.invariant-loop-b
invariant-loop-b l = (l.at ≡ l.initial.at + l.b-index) × (begins l.word (drop l.initial.at l.text) ≡ begins (drop l.b-index l.word) (drop l.at l.text))
