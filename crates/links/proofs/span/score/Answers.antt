use native.Mathlib.Omega.{arith}
use Rattle.links.proofs.Scoring.{scored_none, stored_ready, scored_more}
use Rattle.links.proofs.span.score.Goals as goal

pub loop-k-init : goal.loop-k-init
loop-k-init c = scored_none _ _ _

pub slot_distance-dist-requires : goal.slot_distance-dist-requires
slot_distance-dist-requires c = stored_ready _ _ c.requires.0 _ c.loop-k-test.true c.id_at-x.ensures

pub loop-k-preserved : goal.loop-k-preserved
loop-k-preserved c = rw c.put.ensures (scored_more _ _ _ _ c.loop-k.invariant (omega arith) c.id_at-x.ensures c.slot_distance-dist.ensures)
