use Rattle.vectors.specs.Space.{slot_distance}
use Rattle.vectors.specs.Lent.{space_of}
use Rattle.lists.proofs.Places.{all_at}
use Rattle.vectors.specs.Lent.{HasVector}
use Rattle.landmarks.proofs.Drawing.{part_listed, part_drew, drawing_first, drawing_next}
use Rattle.landmarks.proofs.choose.draw_all.Goals as goal

pub loop-id-init : goal.loop-id-init
loop-id-init c = drawing_first _ _ _ c.requires.0 c.draw_near-m.ensures

pub draw_near-m-requires-in-loop-id : goal.draw_near-m-requires-in-loop-id
draw_near-m-requires-in-loop-id c = (part_listed c.loop-id.invariant.listed, all_at 0 (HasVector c.args.space.now) c.args.kept.now c.requires.2 _ c.loop-id-test.true)

pub loop-id-preserved : goal.loop-id-preserved
loop-id-preserved c = drawing_next c.loop-id.invariant c.loop-id-test.true (part_drew (slot_distance (space_of c.args.space.now)) _ c.loop-id.list c.loop-id.m c.draw_near-m-in-loop-id.new.list c.loop-id.invariant.listed.room c.draw_near-m-in-loop-id.auto.list c.draw_near-m-in-loop-id.ensures)
