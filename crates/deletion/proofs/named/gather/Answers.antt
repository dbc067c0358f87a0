use mathlib.Core.Path.{sym, ◌∙◌}
use native.Mathlib.Omega.{arith}
use Rattle.deletion.proofs.Naming.{gathering_none, gathering_more, gathering_skip}
use Rattle.deletion.proofs.named.gather.Goals as goal
use Rattle.deletion.proofs.named.gather.Goals.{then-is_valid, else-is_valid}

pub loop-id-init : goal.loop-id-init
loop-id-init c = gathering_none _ _ _

pub loop-id-preserved : goal.loop-id-preserved
loop-id-preserved c =
    elim c.if-is_valid.branch [
      | then-is_valid w ↦ rw (w.list-is, w.n-is, w.put.ensures) (gathering_more c.loop-id.invariant (omega arith) (sym c.is_valid.ensures ∙ w.if-is_valid.true) c.requires)
      | else-is_valid w ↦ rw (w.list-is, w.n-is) (gathering_skip c.loop-id.invariant (omega arith) (sym c.is_valid.ensures ∙ w.if-is_valid.false))
    ]
