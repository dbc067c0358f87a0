-- Woven, the squares that one lane adds next are neighbours.
use Rattle.std.proofs.Common.{arith, rules}
use Rattle.distances.proofs.Simd.{woven_bytes, woven_most, most_more, most_weighted, block_ones, block_weighted}
use Rattle.distances.proofs.lanes.block.Goals as goal

pub pairs-requires : goal.pairs-requires
pairs-requires g c = most_more _ (woven_bytes _ _ (omega arith) c.woven.ensures.0 c.fits-d c.fits-e)

pub pairs-requires-then-this-ne0 : goal.pairs-requires-then-this-ne0
pairs-requires-then-this-ne0 g c = most_more _ (woven_bytes _ _ (omega arith) c.woven.ensures.1 c.fits-d c.fits-e)

pub returns-then-this-ne0 : goal.returns-then-this-ne0
returns-then-this-ne0 g c =
    block_ones _ _ c.woven.ensures (c.requires.1 (search rules)) (c.fits-d, c.fits-e) (c.fits-v, c.fits-w) c.requires.0 c.pairs.ensures
    c.pairs-then-this-ne0.ensures

pub weighted-requires : goal.weighted-requires
weighted-requires g c =
    (woven_most 4 (omega arith) c.woven-2.ensures.0 c.requires.0.0 c.requires.0.1, woven_bytes _ _ (omega arith) c.woven.ensures.0 c.fits-d c.fits-e)

pub pairs-requires-2 : goal.pairs-requires-2
pairs-requires-2 g c =
    most_weighted _ _ c.weighted.ensures (woven_most 4 (omega arith) c.woven-2.ensures.0 c.requires.0.0 c.requires.0.1)
    (woven_bytes _ _ (omega arith) c.woven.ensures.0 c.fits-d c.fits-e)

pub weighted-requires-2 : goal.weighted-requires-2
weighted-requires-2 g c =
    (woven_most 4 (omega arith) c.woven-2.ensures.1 c.requires.0.0 c.requires.0.1, woven_bytes _ _ (omega arith) c.woven.ensures.1 c.fits-d c.fits-e)

pub pairs-requires-3 : goal.pairs-requires-3
pairs-requires-3 g c =
    most_weighted _ _ c.weighted-2.ensures (woven_most 4 (omega arith) c.woven-2.ensures.1 c.requires.0.0 c.requires.0.1)
    (woven_bytes _ _ (omega arith) c.woven.ensures.1 c.fits-d c.fits-e)

pub returns : goal.returns
returns g c =
    block_weighted c.woven.ensures c.woven-2.ensures c.weighted.ensures c.weighted-2.ensures (c.fits-d, c.fits-e) c.requires.0 c.pairs-2.ensures
    c.pairs-3.ensures
