use native.Mathlib.Omega.{arith}
use Rattle.landmarks.proofs.Choosing.{comparing_farther, comparing_nearer, comparing_done}
use Rattle.landmarks.proofs.choose.farthest_id.Goals as goal
use Rattle.landmarks.proofs.choose.farthest_id.Goals.{then-best-dist, else-best-dist}

pub loop-i-preserved : goal.loop-i-preserved
loop-i-preserved c =
    elim c.if-best-dist.branch [
      | then-best-dist w ↦ rw (w.best-is, w.id-is) (comparing_farther c.loop-i.invariant c.loop-i-test.true c.dist_at-dist.ensures w.id_at-id.ensures (omega (arith, w.if-best-dist.true)))
      | else-best-dist w ↦ rw (w.best-is, w.id-is) (comparing_nearer c.loop-i.invariant c.loop-i-test.true c.dist_at-dist.ensures w.if-best-dist.false)
    ]

pub returns : goal.returns
returns c = comparing_done c.loop-i.invariant c.loop-i-test.false
