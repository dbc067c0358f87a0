use Rattle.reading.proofs.Finds.{showing_none, showing_small, showing_more}
use Rattle.reading.proofs.searching.show.Goals as goal

pub loop-i-init : goal.loop-i-init
loop-i-init c = showing_none _ _ _ _

pub new-c-requires : goal.new-c-requires
new-c-requires c = rw c.dist_at.ensures (showing_small c.loop-i.invariant c.requires c.loop-i-test.true)

pub loop-i-preserved : goal.loop-i-preserved
loop-i-preserved c = showing_more c.loop-i.invariant c.requires c.loop-i-test.true c.dist_at.ensures c.id_at.ensures c.new-c.ensures
