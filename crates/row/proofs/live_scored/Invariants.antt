-- The live targets before `place` are written.
use Rattle.slots.specs.Lent.{graph_of}
use Rattle.row.proofs.Scored.{Scoring}
use Rattle.row.proofs.live_scored.Given as goal

abbrev pub invariant-loop-place : goal.invariant-loop-place
invariant-loop-place l = Scoring (graph_of l.graph) l.s l.initial.list l.list l.n l.place
