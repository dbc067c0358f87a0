use Rattle.landmarks.proofs.Looking.{stays_live}
use Rattle.landmarks.proofs.staying.stays.Goals as goal

pub returns-then-is_valid : goal.returns-then-is_valid
returns-then-is_valid c = stays_live c.args.marks.now c.args.ids.now c.args.id c.is_valid.ensures c.if-is_valid.true c.contains.ensures.value
