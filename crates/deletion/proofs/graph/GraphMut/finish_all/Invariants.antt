use Rattle.deletion.specs.Lent.{graph_mut_of, SameGraph}
use Rattle.deletion.proofs.Acting.{Finishing}
use Rattle.deletion.proofs.graph.GraphMut.finish_all.Given as goal

abbrev pub invariant-loop-k : goal.invariant-loop-k
invariant-loop-k l = record {
  finishing : Finishing (graph_mut_of l.initial.self) l.list (graph_mut_of l.self) l.k;
  same : SameGraph l.initial.self l.self;
}
