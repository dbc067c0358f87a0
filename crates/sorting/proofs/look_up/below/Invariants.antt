-- The keys before `low` are below the key sought, and those from `high` on are not.
use Prim.Native.Nat.{◌-◌}
use lib.ListN.{length}
use Rattle.sorting.proofs.Search.{Halving}
use Rattle.sorting.proofs.look_up.below.Given as goal

abbrev pub invariant-loop-low : goal.invariant-loop-low
invariant-loop-low l = Halving l.keys l.order (length l.order) l.key l.low l.high

abbrev pub decreases-loop-low : goal.decreases-loop-low
decreases-loop-low l = l.high - l.low
