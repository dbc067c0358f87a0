-- The live ones of the first `i` words are the first `n`.
use Rattle.numbers.proofs.Loops.{Keeping}
use Rattle.numbers.proofs.summary.keep_live.Given as goal

abbrev pub invariant-loop-i : goal.invariant-loop-i
invariant-loop-i l = Keeping l.marks l.initial.summary l.live l.n l.i l.summary
