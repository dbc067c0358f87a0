use native.Mathlib.Omega.{arith}
use Rattle.index.proofs.Weigh.{weighed_outside, weighed_sum}
use Rattle.index.proofs.refusals.weights_bad.Goals as goal

pub returns-then-bad : goal.returns-then-bad
returns-then-bad c = weighed_outside c.loop-weight.invariant (omega (arith, c.loop-weight-test.false)) c.if-bad.true

pub returns-else-bad : goal.returns-else-bad
returns-else-bad c = weighed_sum c.loop-weight.invariant (omega (arith, c.loop-weight-test.false)) c.if-bad.false c.from.ensures
