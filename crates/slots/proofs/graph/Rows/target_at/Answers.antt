use Rattle.slots.proofs.Places.{ref_target}
use Rattle.slots.proofs.graph.Rows.target_at.Goals as goal

pub returns : goal.returns
returns c = λ measure dim vectors edges versions marks t k. ref_target _ _ _ k
