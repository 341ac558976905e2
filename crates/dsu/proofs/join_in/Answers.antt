-- A union in valid sets isn't refused.
use Rattle.dsu.proofs.Lent.{in_valid}
use Rattle.dsu.proofs.join_in.Goals as goal

pub unwrap-requires : goal.unwrap-requires
unwrap-requires c = in_valid _ _ _ _ _ c.requires _ _ _ c.union_in.ensures
