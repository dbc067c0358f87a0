use Rattle.insertion.proofs.Chaining.{Linking}
use Rattle.insertion.proofs.chains.link.Given as goal

abbrev pub invariant-loop-k : goal.invariant-loop-k
invariant-loop-k l = Linking l.initial.scratch l.at l.n l.capacity l.scratch l.k
