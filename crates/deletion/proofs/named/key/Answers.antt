use Rattle.deletion.proofs.Naming.{keying_none, keying_more}
use Rattle.deletion.proofs.named.key.Goals as goal

pub loop-k-init : goal.loop-k-init
loop-k-init c = keying_none _

pub loop-k-preserved : goal.loop-k-preserved
loop-k-preserved c = rw c.put.ensures (keying_more c.loop-k.invariant c.loop-k-test.true c.id_at-id.ensures)
