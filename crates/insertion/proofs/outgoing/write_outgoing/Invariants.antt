use Rattle.insertion.proofs.OwnRows.{OutgoingUpTo}
use Rattle.insertion.proofs.outgoing.write_outgoing.Given as goal

abbrev pub invariant-loop-i : goal.invariant-loop-i
invariant-loop-i l = OutgoingUpTo l.plans.slots.now l.initial.scratch l.plans.at l.plans.n l.initial.pruner l.pruner l.scratch l.b l.i
