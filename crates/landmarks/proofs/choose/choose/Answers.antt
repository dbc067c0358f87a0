use Rattle.vectors.specs.Space.{slot_distance}
use Rattle.vectors.specs.Lent.{space_of}
use Rattle.landmarks.proofs.Drawing.{part_listed, part_is, part_drew}
use Rattle.landmarks.proofs.Choosing.{farthest_inside, choosing_more, choosing_empty, choosing_done}
use Rattle.landmarks.proofs.choose.choose.Goals as goal

pub returns-then-m-eq0 : goal.returns-then-m-eq0
returns-then-m-eq0 c = choosing_empty c.loop-k.invariant c.if-m-eq0.true

pub draw_near-m-requires : goal.draw_near-m-requires
draw_near-m-requires c =
    let listed = c.loop-k.invariant.listed in
    let next = rw (part_is _ _ listed.room) at c.farthest_id-next.ensures in
    (part_listed listed, farthest_inside listed c.if-m-eq0.false next)

pub loop-k-preserved : goal.loop-k-preserved
loop-k-preserved c =
    let room = c.loop-k.invariant.listed.room in
    let next = rw (part_is _ _ room) at c.farthest_id-next.ensures in
    choosing_more c.loop-k.invariant c.requires.1 c.loop-k-test.true c.if-m-eq0.false next (part_drew (slot_distance (space_of c.args.space.now)) _ c.loop-k.list c.loop-k.m c.draw_near-m.new.list room c.draw_near-m.auto.list c.draw_near-m.ensures)

pub returns : goal.returns
returns c = choosing_done c.loop-k.invariant c.loop-k.auto.k-end c.loop-k-test.false
