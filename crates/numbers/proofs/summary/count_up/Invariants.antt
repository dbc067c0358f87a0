-- The first `i` places are written.
use lib.ListN.{length}
use Rattle.numbers.proofs.Loops.{Counted}
use Rattle.numbers.proofs.summary.count_up.Given as goal

abbrev pub invariant-loop-i : goal.invariant-loop-i
invariant-loop-i l = Counted l.from (length l.initial.order) l.initial.order l.i l.order
