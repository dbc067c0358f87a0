use Rattle.row.proofs.Kept.{pruner_none}
use Rattle.insertion.proofs.Same.{below_none}
use Rattle.insertion.proofs.Targeting.{renewed_not, row_takes, row_prunable, renewed_new, renewed_below}
use mathlib.Core.Path.{refl}
use native.Mathlib.Omega.{arith}
use Rattle.insertion.proofs.targets.renew.Goals as goal

pub returns-then-plans-scratch : goal.returns-then-plans-scratch
returns-then-plans-scratch c = (λ entry. record { index = renewed_not _ _ _ refl c.if-plans-scratch.true; same = pruner_none _ }, below_none _ _)

pub take_incoming-m-requires : goal.take_incoming-m-requires
take_incoming-m-requires c = row_takes refl c.requires.0 c.requires.1 _ c.live_scored-k.auto.list (rw c.graph-graph.ensures at c.live_scored-k.ensures.0)

pub write_pruned-requires : goal.write_pruned-requires
write_pruned-requires c =
    let s = c.split_at_mut-front.ensures in
    let p = row_prunable refl c.requires.0 c.requires.1 _ c.live_scored-k.auto.list (rw c.graph-graph.ensures at c.live_scored-k.ensures.0) c.take_incoming-m.ensures in
    (omega arith, (c.requires.0, rw s.front p.0, rw s.back p.1))

pub returns : goal.returns
returns c =
    let s = c.write_pruned.ensures.1 in
    let parts = c.split_at_mut-front.ensures in
    let g = rw (s.slices.degree, s.slices.versions, s.space, s.marks, parts.front) at c.write_pruned.ensures.0 in
    let f = rw c.graph-graph.ensures at c.live_scored-k.ensures.0 in
    let u = renewed_new refl c.requires.0 c.requires.1 _ c.live_scored-k.auto.list f c.take_incoming-m.ensures g c.if-plans-scratch.false in
    let below = renewed_below refl c.requires.0 c.requires.1 _ c.live_scored-k.auto.list f c.take_incoming-m.ensures _ _ (rw parts.front at c.write_pruned.auto.list) (rw parts.back at c.write_pruned.auto.out) in
    (λ entry. record { index = rw (s.alpha, s.slices.degree, s.slices.versions, s.space, s.marks) (u entry); same = s }, rw parts.front below)
