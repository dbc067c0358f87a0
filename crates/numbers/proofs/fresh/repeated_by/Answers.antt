use Rattle.numbers.proofs.Twice.{parts_done, clear_done}
use Rattle.numbers.proofs.fresh.repeated_by.Goals as goal

pub returns : goal.returns
returns c = clear_done (parts_done c.requires.0 c.div_ceil-part-end.ensures c.loop-part-test.false) c.loop-part.invariant.0
