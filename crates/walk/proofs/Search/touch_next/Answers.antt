use Rattle.slots.proofs.Places.{shape_fits}
use Rattle.walk.proofs.Walking.{placed_inside}
use Rattle.walk.proofs.Search.touch_next.Goals as goal

pub touch-requires : goal.touch-requires
touch-requires c = shape_fits c.args.self.now.graph.shape _ (placed_inside c.requires.0 c.if-i-list.true c.id_at.ensures)
