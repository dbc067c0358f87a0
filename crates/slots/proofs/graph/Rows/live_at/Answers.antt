use Rattle.std.proofs.Common.{refl}
use Rattle.slots.proofs.Places.{ref_outside, ref_unmarked, ref_stale, ref_live}
use Rattle.slots.proofs.graph.Rows.live_at.Goals as goal
use Rattle.slots.proofs.graph.Rows.live_at.Goals.{else-slot-self-via-then-slot-self+then-self-slot-ne0+else-self-at, else-slot-self-via-then-slot-self+else-self-slot-ne0, else-slot-self-via-else-slot-self}

pub returns-then-self-at : goal.returns-then-self-at
returns-then-self-at c = λ measure dim vectors. ref_live _ _ _ refl c.if-self-slot-ne0.true c.if-self-at.true

pub returns : goal.returns
returns c = λ measure dim vectors. elim c.else-slot-self.branch [
  | else-slot-self-via-then-slot-self+then-self-slot-ne0+else-self-at w ↦ ref_stale _ _ _ refl w.if-self-at.false
  | else-slot-self-via-then-slot-self+else-self-slot-ne0 w ↦ ref_unmarked _ _ _ refl w.if-self-slot-ne0.false
  | else-slot-self-via-else-slot-self w ↦ ref_outside _ _ _ refl w.if-slot-self.false
]
