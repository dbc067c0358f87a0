use Rattle.std.proofs.Common.{rules}
use Rattle.distances.proofs.Simd.{chunk_lanes, ones_lanes}
use Rattle.distances.proofs.lanes.weights_at.Goals.{then-this-ne0, else-this-ne0}
use Rattle.distances.proofs.lanes.weights_at.Goals as goal

pub returns : goal.returns
returns g c = elim c.if-this-ne0.branch [
  | then-this-ne0 w ↦ rw w.result-is (ones_lanes c.args.weights.now c.args.i c.requires.1 (c.requires.0 (search rules)))
  | else-this-ne0 w ↦ rw w.result-is (chunk_lanes c.args.weights.now c.args.i c.requires.1)
]
