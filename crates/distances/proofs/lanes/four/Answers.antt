use Rattle.distances.proofs.Sums.{summed_four}
use Rattle.distances.proofs.lanes.four.Goals as goal

pub returns : goal.returns
returns g c =
    summed_four c.requires.0 c.type_inv.a c.type_inv.b c.args.i c.requires.1 c.term.ensures c.term-2.ensures c.term-3.ensures c.term-4.ensures
