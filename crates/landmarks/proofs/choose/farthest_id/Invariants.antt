-- Of the candidates before `i` the farthest is the pair of `best` and `id`.
use Prim.Native.Nat.{◌/◌}
use lib.ListN.{length}
use Rattle.landmarks.proofs.Choosing.{Comparing}
use Rattle.landmarks.proofs.choose.farthest_id.Given as goal

abbrev pub invariant-loop-i : goal.invariant-loop-i
invariant-loop-i l = Comparing l.list (length l.list / 2) l.best l.id l.i
