use Prim.Native.Nat.{◌/◌}
use lib.ListN.{length}
use Rattle.reading.proofs.Finds.{Showing}
use Rattle.reading.proofs.searching.show.Given as goal

abbrev pub invariant-loop-i : goal.invariant-loop-i
invariant-loop-i l = Showing l.list (length l.list / 2) l.initial.slots l.initial.dists l.slots l.dists l.i
