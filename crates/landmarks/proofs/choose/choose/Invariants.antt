use Prim.Native.Nat.{◌/◌}
use lib.ListN.{length}
use Rattle.vectors.specs.Space.{slot_distance}
use Rattle.vectors.specs.Lent.{space_of}
use Rattle.landmarks.proofs.Choosing.{Choosing}
use Rattle.landmarks.proofs.choose.choose.Given as goal

abbrev pub invariant-loop-k : goal.invariant-loop-k
invariant-loop-k l = Choosing l.space (slot_distance (space_of l.space)) l.wanted (length l.initial.list / 2) l.initial.landmarks l.initial.list l.landmarks l.list l.m l.k
