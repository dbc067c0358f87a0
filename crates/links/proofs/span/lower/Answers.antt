use Rattle.links.proofs.Scoring.{lowering_none, stored_ready, lowering_id, lowering_more}
use Rattle.links.proofs.span.lower.Goals as goal

pub loop-k-init : goal.loop-k-init
loop-k-init c = lowering_none _ _

pub slot_distance-dist-requires : goal.slot_distance-dist-requires
slot_distance-dist-requires c = stored_ready _ _ c.requires _ c.loop-k-test.true (lowering_id c.loop-k.invariant c.id_at-x.ensures)

pub loop-k-preserved : goal.loop-k-preserved
loop-k-preserved c = rw c.put.ensures (lowering_more c.loop-k.invariant c.loop-k-test.true c.id_at-x.ensures c.dist_at-was.ensures c.slot_distance-dist.ensures c.min.ensures)
