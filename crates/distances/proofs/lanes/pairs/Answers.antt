-- Each lane's products and sums fit 32 bits.
use Rattle.std.proofs.Common.{refl, arith}
use Rattle.distances.proofs.Simd.{below_4, lane_paired}
use Rattle.distances.proofs.lanes.pairs.Goals as goal

pub returns : goal.returns
returns c =
    let at = lane_paired c.args.x c.args.d c.fits-x.0 c.fits-d.0 c.requires.0 c.requires.1 in
    record { long = refl; each = below_4 _ (at 0 (omega arith)) (at 1 (omega arith)) (at 2 (omega arith)) (at 3 (omega arith)) }
