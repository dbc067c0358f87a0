use Rattle.vectors.specs.Lent.{measure_of}
use Rattle.links.specs.Inner.Linking.{between}
use Rattle.links.proofs.Scoring.{Lowering}
use Rattle.links.proofs.span.lower.Given as goal

abbrev pub invariant-loop-k : goal.invariant-loop-k
invariant-loop-k l = Lowering (λ x. between (measure_of l.space.weights) l.space.dim l.space.vectors.now x l.y) l.initial.list l.list l.k
