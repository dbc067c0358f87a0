use Rattle.links.proofs.Counting.{counting_more, counting_done}
use Rattle.links.proofs.plan.attempted.Goals as goal

pub loop-k-preserved : goal.loop-k-preserved
loop-k-preserved c = counting_more c.requires.0 c.loop-k-test.true c.min.ensures c.loop-k.invariant

pub returns : goal.returns
returns c = counting_done c.requires.1 c.loop-k-test.false c.loop-k.invariant
