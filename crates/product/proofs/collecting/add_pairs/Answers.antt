-- The transitions of each pair are added to those of the pairs before it.
use Rattle.product.proofs.Adding.{pairs_laws, pairs_over, pairs_next}
use Rattle.product.proofs.Blocking.{within_left, within_right}
use Rattle.product.proofs.Queueing.{queued_room}
use Rattle.product.proofs.collecting.add_pairs.Goals as goal

pub loop-i-init : goal.loop-i-init
loop-i-init c = search pairs_laws

pub add_pair-f-requires : goal.add_pair-f-requires
add_pair-f-requires c =
    let s = c.requires in
    let t = c.loop-i-test.true in (
      s.0,
      s.1,
      s.2,
      s.3,
      s.4,
      t,
      within_left c.args.a.now c.args.b.now _ _ _ s.5 (queued_room _ _ _ s.3) t,
      within_right c.args.a.now c.args.b.now _ _ _ s.5 (queued_room _ _ _ s.3) t,
      c.loop-i.invariant.room,
    )

pub returns-then-buf-f : goal.returns-then-buf-f
returns-then-buf-f c = pairs_over _ _ _ _ _ c.args.queue.now _ _ _ _ c.loop-i.invariant c.requires.3 c.loop-i-test.true _ _ _ c.add_pair-f.ensures c.if-buf-f.true

pub loop-i-preserved : goal.loop-i-preserved
loop-i-preserved c = pairs_next _ _ _ _ _ c.args.queue.now _ _ _ _ c.loop-i.invariant c.requires.3 c.loop-i-test.true _ _ _ c.add_pair-f.ensures c.if-buf-f.false

pub returns : goal.returns
returns c = search pairs_laws
