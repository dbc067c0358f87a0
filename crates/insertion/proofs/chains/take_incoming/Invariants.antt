use Rattle.insertion.proofs.Chaining.{Taking}
use Prim.Native.Nat.{◌-◌}
use Rattle.insertion.proofs.chains.take_incoming.Given as goal

abbrev pub invariant-loop-k : goal.invariant-loop-k
invariant-loop-k l = Taking l.initial.scratch l.at l.n l.t l.m l.scratch l.r l.k

abbrev pub decreases-loop-k : goal.decreases-loop-k
decreases-loop-k l = l.n - l.k
