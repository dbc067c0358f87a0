use Rattle.deletion.proofs.Naming.{Keying}
use Rattle.deletion.proofs.named.key.Given as goal

abbrev pub invariant-loop-k : goal.invariant-loop-k
invariant-loop-k l = Keying l.initial.list l.list l.k
