use native.Mathlib.Omega.{arith}
use Rattle.slots.specs.Sizes.{limits}
use Rattle.guarding.proofs.Guards.{guards_named}
use Rattle.guarding.proofs.deleting.guarded_delete.Goals as goal

pub by_slots-by-requires : goal.by_slots-by-requires
unfolding limits
by_slots-by-requires c = omega arith

pub returns : goal.returns
returns c = (guards_named c.read.ensures c.by_slots-by.ensures c.guarded_slots.ensures.0, c.guarded_slots.ensures.1, c.guarded_slots.ensures.2)
