use Rattle.deletion.proofs.Naming.{clearing_inside, clearing_more, clearing_done}
use Rattle.deletion.proofs.named.clear.Goals as goal

pub kill-requires : goal.kill-requires
kill-requires c = clearing_inside c.loop-k.invariant c.requires c.loop-k-test.true c.id_at.ensures

pub loop-k-preserved : goal.loop-k-preserved
loop-k-preserved c = clearing_more c.loop-k.invariant c.loop-k-test.true c.id_at.ensures c.kill.ensures

pub returns : goal.returns
returns c = clearing_done c.loop-k.invariant c.loop-k-test.false
