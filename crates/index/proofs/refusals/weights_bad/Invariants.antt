-- The weights so far: whether one of them is outside, and their sum.
use Rattle.index.proofs.Weigh.{Weighed}
use Rattle.index.proofs.refusals.weights_bad.Given as goal

abbrev pub invariant-loop-weight : goal.invariant-loop-weight
invariant-loop-weight l = Weighed l.weights l.bad l.sum l.weight-index
