use native.Mathlib.Omega.{arith}
use Rattle.deletion.proofs.Making.{making_collects, making_counted, making_more, making_done}
use Rattle.deletion.proofs.plans.make_plans.Goals as goal

pub collect-c-requires : goal.collect-c-requires
collect-c-requires c = making_collects c.loop-k.invariant c.requires (omega arith) c.id_at-s.ensures

pub loop-k-preserved : goal.loop-k-preserved
loop-k-preserved c = making_more c.loop-k.invariant c.requires (omega arith) c.id_at-s.ensures c.collect-c.ensures c.attempted-n.ensures (making_counted c.loop-k.invariant c.requires (omega arith) c.id_at-s.ensures c.collect-c.ensures _ c.put_counts.ensures)

pub returns : goal.returns
returns c = making_done c.loop-k.invariant c.requires (omega arith)
