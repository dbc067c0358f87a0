use lib.ListN.{length}
use Rattle.insertion.proofs.Filled.{Gathering}
use Rattle.insertion.proofs.filling.free_slots.Given as goal

abbrev pub invariant-loop-s : goal.invariant-loop-s
invariant-loop-s l = Gathering l.marks l.initial.slots (length l.initial.slots) l.slots l.n l.s
