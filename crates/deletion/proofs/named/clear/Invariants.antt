use Rattle.deletion.proofs.Naming.{Clearing}
use Rattle.deletion.proofs.named.clear.Given as goal

abbrev pub invariant-loop-k : goal.invariant-loop-k
invariant-loop-k l = Clearing l.initial.marks l.list l.marks l.k
