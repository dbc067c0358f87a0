use Rattle.links.proofs.Counting.{Counting}
use Rattle.links.proofs.plan.attempted.Given as goal

abbrev pub invariant-loop-k : goal.invariant-loop-k
invariant-loop-k l = Counting l.repair_degree l.n l.total l.k
