use Rattle.insertion.proofs.Plans.{laid_more}
use Rattle.insertion.proofs.planning.Planner.plan_all.Goals as goal

pub loop-i-preserved : goal.loop-i-preserved
loop-i-preserved c = laid_more c.args.self.now c.requires c.loop-i.invariant c.loop-i-test.true c.plan_one-n.ensures
