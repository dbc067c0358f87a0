use Rattle.std.proofs.Common.{refl}
use Rattle.slots.proofs.Done.{killed_by}
use Rattle.slots.proofs.ops.kill.Goals as goal

pub returns : goal.returns
returns c = killed_by refl
