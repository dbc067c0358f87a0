use native.Mathlib.Omega.{arith}
use Rattle.candidates.proofs.Words.{cands_length}
use Rattle.links.proofs.Scoring.{nearest_first, nearest_take, nearest_keep}
use Rattle.links.proofs.span.nearest.Goals as goal
use Rattle.links.proofs.span.nearest.Goals.{then-dist_at, else-dist_at}

pub loop-i-init : goal.loop-i-init
loop-i-init c = nearest_first _

pub dist_at-requires-in-loop-i : goal.dist_at-requires-in-loop-i
dist_at-requires-in-loop-i c = omega (arith, c.loop-i.invariant.within, cands_length c.args.list.now 0 c.loop-i.i)

pub loop-i-preserved : goal.loop-i-preserved
loop-i-preserved c =
    elim c.if-dist_at.branch [
      | then-dist_at w ↦ rw w.best-is (nearest_take _ _ c.loop-i.invariant c.dist_at.ensures c.dist_at-in-loop-i.ensures w.if-dist_at.true)
      | else-dist_at w ↦ rw w.best-is (nearest_keep _ _ c.loop-i.invariant c.dist_at.ensures c.dist_at-in-loop-i.ensures w.if-dist_at.false)
    ]
