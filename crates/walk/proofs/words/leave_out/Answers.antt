use mathlib.Core.Path.{refl}
use Rattle.walk.proofs.Marks.{leaving_slot, leaving_other}
use Rattle.walk.proofs.words.leave_out.Goals as goal
use Rattle.walk.proofs.words.leave_out.Goals.{then-s-capacity, else-s-capacity}

pub loop-id-preserved : goal.loop-id-preserved
loop-id-preserved c =
    elim c.if-s-capacity.branch [
      | then-s-capacity w ↦ rw (w.scratch-is, w.set_mark.ensures) (leaving_slot c.loop-id.invariant c.loop-id-test.true refl c.requires w.if-s-capacity.true)
      | else-s-capacity w ↦ rw w.scratch-is (leaving_other c.loop-id.invariant c.loop-id-test.true refl c.requires w.if-s-capacity.false)
    ]
