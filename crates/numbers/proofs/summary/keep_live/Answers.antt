use mathlib.Core.Path.{refl}
use Rattle.numbers.proofs.Loops.{keeping_more}
use Rattle.numbers.proofs.summary.keep_live.Goals as goal

pub loop-i-preserved : goal.loop-i-preserved
loop-i-preserved c = keeping_more c.requires c.loop-i-test.true c.loop-i.invariant refl c.is_valid.result c.is_valid.ensures c.from-n.ensures
