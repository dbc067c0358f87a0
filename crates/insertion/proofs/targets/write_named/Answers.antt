use Rattle.insertion.proofs.Targeting.{sweep_asks, sweeping_more}
use Rattle.insertion.proofs.targets.write_named.Goals as goal

pub renew-requires : goal.renew-requires
renew-requires c = sweep_asks c.requires c.loop-s.invariant c.loop-s-test.true

pub loop-s-preserved : goal.loop-s-preserved
loop-s-preserved c = sweeping_more c.requires c.loop-s.invariant c.loop-s-test.true c.renew.ensures.0 c.renew.ensures.1
