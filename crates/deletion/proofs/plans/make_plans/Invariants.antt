use Rattle.slots.specs.Lent.{graph_of}
use Rattle.deletion.proofs.Making.{Making}
use Rattle.deletion.proofs.plans.make_plans.Given as goal

abbrev pub invariant-loop-k : goal.invariant-loop-k
invariant-loop-k l = Making (graph_of l.graph) l.how l.initial.scratch l.at l.scratch l.k
