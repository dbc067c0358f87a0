use Rattle.links.proofs.Linking.{joined_old, joined_new}
use Rattle.links.proofs.link.add_target.Goals as goal

pub returns-then-has_id : goal.returns-then-has_id
returns-then-has_id c = joined_old c.slot_distance-dist.ensures _ _ c.requires.3 c.has_id.ensures c.if-has_id.true

pub returns : goal.returns
returns c = rw c.put.ensures (joined_new c.slot_distance-dist.ensures _ _ c.requires.3 c.has_id.ensures c.if-has_id.false)
