use Rattle.admission.proofs.Pooling.{keeping_take, keeping_skip}
use Rattle.admission.proofs.pool.keep_landmarks.Goals as goal
use Rattle.admission.proofs.pool.keep_landmarks.Goals.{then-stays, else-stays}

pub loop-id-preserved : goal.loop-id-preserved
loop-id-preserved c =
    elim c.if-stays.branch [
      | then-stays w ↦ rw (w.list-is, w.m-is) (keeping_take c.loop-id.invariant c.requires c.loop-id-test.true c.if-m-count.false c.stays.ensures w.if-stays.true)
      | else-stays w ↦ rw (w.list-is, w.m-is) (keeping_skip c.loop-id.invariant c.loop-id-test.true c.stays.ensures w.if-stays.false)
    ]
