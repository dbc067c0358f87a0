use Rattle.vectors.specs.Space.{slot_distance, space}
use Rattle.distances.proofs.slot_distance.Goals as goal

pub returns : goal.returns
unfolding slot_distance space
returns c = rw (c.vector.ensures.bytes, c.vector-2.ensures.bytes) at c.distance.ensures
