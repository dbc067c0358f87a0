use Rattle.distances.proofs.Sums.{summed_thirty_two}
use Rattle.distances.proofs.lanes.thirty_two.Goals as goal

pub returns : goal.returns
returns g c =
    summed_thirty_two c.requires.0 c.type_inv.a c.type_inv.b c.args.i c.requires.1 c.weights_at.ensures c.weights_at-2.ensures c.differences.ensures
    c.differences-2.ensures c.block.ensures
