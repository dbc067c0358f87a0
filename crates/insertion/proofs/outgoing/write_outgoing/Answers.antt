use Rattle.insertion.proofs.OwnRows.{outgoing_more}
use mathlib.Core.Path.{refl}
use Rattle.insertion.proofs.outgoing.write_outgoing.Goals as goal

pub loop-i-preserved : goal.loop-i-preserved
loop-i-preserved c = outgoing_more c.requires c.loop-i.invariant c.loop-i-test.true refl c.write_unnamed.ensures.0 c.write_unnamed.ensures.1
