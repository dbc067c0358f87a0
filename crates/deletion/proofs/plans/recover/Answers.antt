use mathlib.Core.Path.{sym, ◌∙◌}
use Rattle.deletion.proofs.Collecting.{passing_none, rows_ready, passing_more, passing_skip, passing_done}
use Rattle.deletion.proofs.plans.recover.Goals as goal
use Rattle.deletion.proofs.plans.recover.Goals.{then-holds, else-holds}

pub loop-k-init : goal.loop-k-init
loop-k-init c = passing_none _ _ _

pub holds-requires : goal.holds-requires
holds-requires c = rows_ready _ c.requires.0 _ c.loop-k-test.true c.id_at-s.ensures

pub loop-k-preserved : goal.loop-k-preserved
loop-k-preserved c =
    elim c.if-holds.branch [
      | then-holds w ↦ rw (w.to-is, w.m-is, w.put.ensures) (passing_more c.loop-k.invariant c.requires.1 c.loop-k-test.true c.id_at-s.ensures (sym (c.holds.ensures _ _ _) ∙ w.if-holds.true))
      | else-holds w ↦ rw (w.to-is, w.m-is) (passing_skip c.loop-k.invariant c.loop-k-test.true c.id_at-s.ensures (sym (c.holds.ensures _ _ _) ∙ w.if-holds.false))
    ]

pub returns : goal.returns
returns c = passing_done c.loop-k.invariant c.loop-k.auto.k-end c.loop-k-test.false
