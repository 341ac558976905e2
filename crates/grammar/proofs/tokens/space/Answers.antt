-- The space ends at the first other byte, or where the text ends.
use Rattle.std.proofs.Common.{refl}
use Rattle.grammar.proofs.Runs.{space_begin, space_end, space_laws}
use Rattle.grammar.proofs.tokens.space.Goals as goal

pub returns-then-text-c : goal.returns-then-text-c
returns-then-text-c c =
    space_end c.args.text.now _ c.args.c.at (space_begin c.args.text.now c.args.c.at) c.if-text-c.true c.args.c.at refl

pub loop-at-init : goal.loop-at-init
loop-at-init c = search space_laws

pub returns-then-not-is_space : goal.returns-then-not-is_space
returns-then-not-is_space c = search space_laws

pub loop-at-preserved : goal.loop-at-preserved
loop-at-preserved c = search space_laws

pub returns : goal.returns
returns c = search space_laws
