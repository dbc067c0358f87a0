use Rattle.std.proofs.Common.{refl}
use Rattle.slots.proofs.Done.{filled_by}
use Rattle.slots.proofs.ops.fill.Goals as goal

pub returns : goal.returns
returns c = (filled_by c.write_vector.ensures c.write.ensures.0 refl, c.write.ensures.1)
