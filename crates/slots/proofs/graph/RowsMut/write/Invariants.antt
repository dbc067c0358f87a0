-- The invariant: the places before `place` are written, in both slices.
use Rattle.slots.specs.Lent.{SameSlices}
use Rattle.slots.proofs.Written.{Writing}
use Rattle.slots.proofs.graph.RowsMut.write.Given as goal

abbrev pub invariant-loop-place : goal.invariant-loop-place
invariant-loop-place l = Writing l.fn.self.degree l.fn.self.targets.now l.fn.self.edges.now l.fn.self.versions.now l.s l.ids l.place l.self.targets.now l.self.edges.now × SameSlices l.fn.self l.self
