-- Where `ones`, the weights so far are 1.
use Rattle.std.proofs.Common.{◌≡◌, true, ℕ, ◌<◌}
use lib.ListN.{get_or}
use Rattle.vectors.proofs.weights.Weights.new.Given as goal

abbrev pub invariant-loop-weight : goal.invariant-loop-weight
invariant-loop-weight l = l.ones ≡ true → (i : ℕ) → i < l.weight-index → get_or l.each i 0 ≡ 1
