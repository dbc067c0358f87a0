use native.Mathlib.Omega.{arith}
use Rattle.numbers.proofs.Loops.{counted_more, counted_done}
use Rattle.numbers.proofs.summary.count_up.Goals as goal

pub loop-i-preserved : goal.loop-i-preserved
loop-i-preserved c = counted_more (omega arith) (omega (arith, c.loop-i.invariant.size)) c.loop-i.invariant

pub returns : goal.returns
returns c = counted_done (omega (arith, c.loop-i.invariant.size)) c.loop-i.invariant
