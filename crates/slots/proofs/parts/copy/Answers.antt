use Rattle.slots.proofs.Laid.{copied_more}
use Rattle.slots.proofs.parts.copy.Goals as goal

pub loop-place-preserved : goal.loop-place-preserved
loop-place-preserved g c = copied_more _ _ c.requires c.loop-place-test.true c.index-from-place.is c.loop-place.invariant
