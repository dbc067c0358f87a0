use native.Mathlib.Omega.{arith}
use Rattle.insertion.proofs.Filled.{gathering_live, gathering_free}
use mathlib.Core.Path.{sym, ◌∙◌}
use Rattle.insertion.proofs.filling.free_slots.Goals as goal
use Rattle.insertion.proofs.filling.free_slots.Goals.{then-not-is_valid, else-not-is_valid}

pub loop-s-preserved : goal.loop-s-preserved
loop-s-preserved c =
    elim c.if-not-is_valid.branch [
      | then-not-is_valid w ↦ rw (w.slots-is, w.n-is) (gathering_free c.loop-s.invariant (omega arith) c.loop-s-test.true (sym c.is_valid.ensures ∙ w.if-not-is_valid.true) (λ q. c.if-n-slots.false (q ∙ sym c.loop-s.invariant.size)))
      | else-not-is_valid w ↦ rw (w.slots-is, w.n-is) (gathering_live c.loop-s.invariant (omega arith) c.loop-s-test.true (sym c.is_valid.ensures ∙ w.if-not-is_valid.false))
    ]
