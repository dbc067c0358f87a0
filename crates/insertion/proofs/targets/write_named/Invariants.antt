use Rattle.insertion.proofs.Targeting.{Sweeping}
use Rattle.insertion.proofs.targets.write_named.Given as goal

abbrev pub invariant-loop-s : goal.invariant-loop-s
invariant-loop-s l = Sweeping l.initial.scratch l.plans.at l.plans.n l.initial.pruner l.pruner l.scratch l.s
