-- What is summed so far is the sums up to that place.
use Rattle.std.proofs.Common.{length, ◌-◌, ◌≤◌}
use Rattle.distances.specs.Inner.Sums.{Summed}
use Rattle.distances.proofs.lanes.fours.Given as goal

abbrev pub invariant-loop-i : goal.invariant-loop-i
invariant-loop-i g l = (l.i ≤ length l.a) × (l.from ≤ l.i) × Summed l.weights l.a l.b l.from (l.i - l.from) l.sums

abbrev pub decreases-loop-i : goal.decreases-loop-i
decreases-loop-i g l = length l.a - l.i
