use Rattle.vectors.specs.Space.{slot_distance}
use Rattle.vectors.specs.Lent.{space_of}
use Rattle.landmarks.proofs.Drawing.{DrawingAll}
use Rattle.landmarks.proofs.choose.draw_all.Given as goal

abbrev pub invariant-loop-id : goal.invariant-loop-id
invariant-loop-id l = DrawingAll l.space (slot_distance (space_of l.space)) l.kept l.initial.list l.initial.m l.list l.m l.id-index
