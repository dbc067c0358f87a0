use Rattle.distances.proofs.Simd.{slices_differ}
use Rattle.distances.proofs.lanes.differences.Goals as goal

pub returns : goal.returns
returns c = slices_differ c.args.a.now c.args.b.now c.args.i c.requires.0 c.requires.1 c.type_inv.a c.type_inv.b
