-- The starts agree, and the tables of both sheets are made.
use Rattle.std.proofs.Common.{refl}
use Rattle.equality.proofs.WalkLaws.{walk_agree}
use Rattle.equality.proofs.walk.walk.Goals as goal

pub walk_pairs-requires : goal.walk_pairs-requires
walk_pairs-requires c =
    walk_agree _ _ _ _ _ c.requires _ _ _ _ c.run_starts.ensures c.run_starts-2.ensures refl refl
    _ _ c.accept_word.ensures c.accept_word-2.ensures c.if-accept_word.false
