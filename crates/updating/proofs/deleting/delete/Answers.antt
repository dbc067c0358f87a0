use native.Mathlib.Omega.{arith}
use Rattle.slots.specs.Sizes.{limits}
use Rattle.updating.proofs.Named.{deletes_named}
use Rattle.updating.proofs.deleting.delete.Goals as goal

pub by_slots-by-requires : goal.by_slots-by-requires
unfolding limits
by_slots-by-requires c = omega arith

pub returns : goal.returns
returns c = (deletes_named c.read.ensures c.by_slots-by.ensures c.delete_slots.ensures.0, c.delete_slots.ensures.1)
