use Prim.Native.Nat.{◌/◌}
use lib.ListN.{length}
use Rattle.vectors.specs.Space.{slot_distance}
use Rattle.vectors.specs.Lent.{space_of}
use Rattle.landmarks.proofs.Drawing.{Drawing}
use Rattle.landmarks.proofs.choose.draw_near.Given as goal

abbrev pub invariant-loop-k : goal.invariant-loop-k
invariant-loop-k l = Drawing l.space (slot_distance (space_of l.space)) l.next l.initial.list (length l.initial.list / 2) l.list l.m l.k
