use Rattle.distances.proofs.Simd.{lanes_weighted}
use Rattle.distances.proofs.lanes.weighted.Goals as goal

pub returns : goal.returns
returns c = lanes_weighted c.args.w c.args.d c.fits-w.0 c.fits-d.0 c.requires.0 c.requires.1
