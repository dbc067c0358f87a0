use Rattle.insertion.proofs.Filled.{filled_more, filled_done}
use mathlib.Core.Path.{refl}
use Rattle.insertion.proofs.inserter.Inserter.fill_chunk.Goals as goal

pub loop-i-preserved : goal.loop-i-preserved
loop-i-preserved c = filled_more c.requires c.loop-i.invariant c.loop-i-test.true refl c.vector.ensures.bytes c.fill.ensures

pub returns : goal.returns
returns c = filled_done c.loop-i.invariant c.loop-i-test.false
