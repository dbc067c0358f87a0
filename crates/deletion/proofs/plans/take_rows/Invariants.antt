use Rattle.slots.specs.Lent.{graph_of}
use Rattle.deletion.proofs.Making.{TakingRows}
use Rattle.deletion.proofs.plans.take_rows.Given as goal

abbrev pub invariant-loop-k : goal.invariant-loop-k
invariant-loop-k l = TakingRows (graph_of l.graph) l.initial.scratch l.at l.scratch l.k
