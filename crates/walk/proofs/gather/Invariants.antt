-- What the row has before `place` is gathered.
use Prim.Native.Nat.{◌+◌, ◌*◌, ◌≤◌}
use Rattle.slots.specs.Lent.{graph_of}
use Rattle.walk.specs.Inner.Scratch.{Gathers}
use Rattle.walk.proofs.gather.Given as goal

abbrev pub invariant-loop-place : goal.invariant-loop-place
invariant-loop-place l = (l.touched ≤ 1020 * (l.n + 1)) × Gathers (graph_of l.graph) l.s l.from l.place l.initial.scratch l.scratch l.fresh l.n
