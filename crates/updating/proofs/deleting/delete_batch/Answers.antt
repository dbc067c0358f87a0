use Rattle.std.proofs.Common.{rules}
use Rattle.updating.proofs.Empties.{strike_long, marks_kept}
use Rattle.updating.proofs.deleting.delete_batch.Goals as goal

pub delete_batch-emptied-requires : goal.delete_batch-emptied-requires
delete_batch-emptied-requires c = rw (c.space-space.ensures.measure, c.space-space.ensures.dim, c.space-space.ensures.vectors) c.requires.0

pub strike-requires : goal.strike-requires
strike-requires c = (strike_long c.delete_batch-emptied.new.graph.marks.now c.requires.3 (marks_kept c.delete_batch-emptied.ensures.0) (search rules), c.requires.4)
