use Rattle.std.proofs.Common.{sym, refl, ◌∙◌, le-ltb}
use Rattle.slots.specs.Store.{is_valid}
use Rattle.slots.proofs.Places.{outside_dead}
use Rattle.slots.proofs.marks.is_valid.Goals as goal

pub returns-then-s-marks : goal.returns-then-s-marks
unfolding is_valid
returns-then-s-marks c = refl

pub returns-else-s-marks : goal.returns-else-s-marks
returns-else-s-marks c = le-ltb _ _ c.if-s-marks.false ∙ sym (outside_dead _ _ c.if-s-marks.false)
