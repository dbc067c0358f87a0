use native.Mathlib.Omega.{arith}
use Rattle.deletion.proofs.Making.{taking_asks, taking_more}
use Rattle.deletion.proofs.plans.take_rows.Goals as goal

pub live_scored-n-requires : goal.live_scored-n-requires
live_scored-n-requires c = taking_asks c.loop-k.invariant c.requires.0 c.requires.1 (omega arith) c.id_at-s.ensures

pub loop-k-preserved : goal.loop-k-preserved
loop-k-preserved c = taking_more c.loop-k.invariant c.requires.0 c.requires.1 (omega arith) c.id_at-s.ensures _ c.live_scored-n.auto.list c.live_scored-n.ensures.0
