-- Two ranges that meet make one transition.
use Rattle.std.proofs.Common.{arith}
use Rattle.product.proofs.Adding.{joint_put}
use Rattle.product.proofs.collecting.add_joint.Goals as goal

pub returns-in-Some : goal.returns-in-Some
returns-in-Some c = joint_put _ _ _ c.requires.6 _ _ c.args.d.now c.args.e.now (omega arith) (omega arith) _ _ c.in-Some.ensures _ c.number_of-to.ensures _ _ _ c.gather_record.ensures
