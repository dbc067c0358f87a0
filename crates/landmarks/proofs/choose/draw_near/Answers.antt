use Rattle.landmarks.proofs.Drawing.{drawing_none, drawing_inside, drawing_take, drawing_skip, drawing_done}
use Rattle.landmarks.proofs.choose.draw_near.Goals as goal
use Rattle.landmarks.proofs.choose.draw_near.Goals.{then-id-next, else-id-next}

pub loop-k-init : goal.loop-k-init
loop-k-init c = drawing_none _ _ c.requires.0

pub slot_distance-d-requires : goal.slot_distance-d-requires
slot_distance-d-requires c = (drawing_inside c.loop-k.invariant c.loop-k-test.true c.id_at-id.ensures, c.requires.1, c.requires.0.small)

pub loop-k-preserved : goal.loop-k-preserved
loop-k-preserved c =
    elim c.if-id-next.branch [
      | then-id-next w ↦ rw (w.list-is, w.m-is, w.put.ensures) (drawing_take c.loop-k.invariant c.requires.0.room c.loop-k-test.true c.dist_at-dist.ensures c.id_at-id.ensures w.if-id-next.true w.slot_distance-d.ensures w.min.ensures)
      | else-id-next w ↦ rw (w.list-is, w.m-is) (drawing_skip c.loop-k.invariant c.loop-k-test.true c.id_at-id.ensures w.if-id-next.false)
    ]

pub returns : goal.returns
returns c = drawing_done c.loop-k.invariant c.loop-k.auto.k-end c.loop-k-test.false
