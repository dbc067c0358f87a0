use Rattle.distances.proofs.Keeping.{keeps_none}
use Rattle.distances.proofs.kept.Kept.new.Goals as goal

pub invariant_of-result-clause-keeps : goal.invariant_of-result-clause-keeps
invariant_of-result-clause-keeps g c = keeps_none c.args.space.weights.each.now c.args.space.dim c.args.space.vectors.now g.row.N
