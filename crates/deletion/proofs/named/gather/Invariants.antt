use Rattle.deletion.proofs.Naming.{Gathering}
use Rattle.deletion.proofs.named.gather.Given as goal

abbrev pub invariant-loop-id : goal.invariant-loop-id
invariant-loop-id l = Gathering l.marks l.ids l.initial.list l.list l.n l.id-index
