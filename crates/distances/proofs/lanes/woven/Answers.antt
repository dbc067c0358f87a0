use Rattle.distances.proofs.Simd.{woven_low, woven_high}
use Rattle.distances.proofs.lanes.woven.Goals as goal

pub returns : goal.returns
returns c = (woven_low c.args.v c.args.w c.fits-v.0 c.fits-w.0, woven_high c.args.v c.args.w c.fits-v.0 c.fits-w.0)
