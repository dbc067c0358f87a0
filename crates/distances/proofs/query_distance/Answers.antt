use Rattle.vectors.specs.Space.{query_distance, space}
use Rattle.distances.proofs.query_distance.Goals as goal

pub returns : goal.returns
unfolding query_distance space
returns c = rw c.vector.ensures.bytes at c.distance.ensures
