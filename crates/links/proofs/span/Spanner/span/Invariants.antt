use Rattle.vectors.specs.Lent.{measure_of}
use Rattle.links.proofs.Spanning.{Spanning}
use Rattle.links.proofs.span.Spanner.span.Given as goal

abbrev pub invariant-loop-i : goal.invariant-loop-i
invariant-loop-i l = Spanning (measure_of l.self.space.weights) l.self.space.dim l.self.space.vectors.now l.self.degree l.initial.connected l.initial.remaining l.connected l.remaining l.pairs l.t l.i
