use Rattle.distances.proofs.Sums.{summed_sixteen}
use Rattle.distances.proofs.lanes.sixteen.Goals as goal

pub returns : goal.returns
returns g c =
    summed_sixteen c.requires.0 c.type_inv.a c.type_inv.b c.args.i c.requires.1 c.weights_at-w.ensures c.differences.ensures c.block.ensures
