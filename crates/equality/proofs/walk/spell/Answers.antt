-- The last symbol is written, and then the symbol that leads to each pair in turn.
use Rattle.std.proofs.Common.{◌+◌, ◌*◌, refl, arith, get_or}
use Rattle.std.proofs.lemmas.List.{drop-set-lt}
use Rattle.equality.proofs.Spelling.{spell_start, spell_next, spell_done}
use Rattle.equality.proofs.walk.spell.Goals as goal

pub loop-at-init : goal.loop-at-init
loop-at-init c = spell_start _ _ _ c.args.out.now _ _ refl (omega (arith, c.requires.2)) refl

pub loop-at-preserved : goal.loop-at-preserved
loop-at-preserved c = spell_next _ _ _ c.requires.0 _ _ _ _ _ c.loop-at.invariant c.loop-at-test.true _ _ refl refl

pub returns : goal.returns
returns c =
    let at = get_or c.args.trail.now (3 * c.args.i + 2) 0 in
    spell_done _ _ _ c.requires.0 _ _ _ _ _ c.loop-at.invariant c.loop-at-test.false c.args.out.now (drop-set-lt (at + 1) c.args.out.now at c.args.x (omega arith))
