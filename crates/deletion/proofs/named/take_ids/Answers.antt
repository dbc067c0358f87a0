use native.Mathlib.Omega.{arith}
use Rattle.deletion.proofs.Naming.{listed}
use Rattle.deletion.proofs.named.take_ids.Goals as goal

pub returns : goal.returns
returns c = listed (omega (arith, c.gather-n.ensures.few, c.gather-n.auto.list, c.requires)) c.gather-n.ensures _ c.sort_set.auto.list c.sort_set.ensures
