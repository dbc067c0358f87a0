use Rattle.slots.specs.Lent.{graph_of}
use Rattle.deletion.specs.Inner.Plans.{refers}
use Rattle.deletion.proofs.Collecting.{Passing}
use Rattle.deletion.proofs.plans.recover.Given as goal

abbrev pub invariant-loop-k : goal.invariant-loop-k
invariant-loop-k l = Passing (refers (graph_of l.graph) l.id) l.list l.initial.to l.to l.m l.k
