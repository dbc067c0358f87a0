use Rattle.insertion.proofs.Chaining.{repeated}
use Rattle.insertion.proofs.Plans.{plan_ready, plan_fits, planned}
use native.Mathlib.Omega.{arith}
use mathlib.Core.Path.{refl}
use Rattle.insertion.proofs.planning.Planner.plan_one.Goals as goal

pub prune_scored-r-requires : goal.prune_scored-r-requires
prune_scored-r-requires c = let r = c.requires in
    (omega arith, rw (c.new-kept.ensures, c.split_at_mut-words.ensures.front) (plan_ready c.args.self.now c.args.scratch.now r.0 r.1 r.2 c.max-width.ensures c.vector.ensures.bytes c.search_pool-k.ensures))

pub slice_bounds-fill-end : goal.slice_bounds-fill-end
slice_bounds-fill-end c = let r = c.requires in
    let parts = c.split_at_mut-words.ensures in
    let p = rw (c.new-kept.ensures, parts.front, parts.back) at c.prune_scored-r.ensures.0 in
    let e = plan_fits c.args.self.now c.args.scratch.now r.0 r.1 r.2 c.max-width.ensures c.vector.ensures.bytes c.search_pool-k.ensures refl _ _ (rw parts.front at c.prune_scored-r.auto.list) (rw parts.back at c.prune_scored-r.auto.out) p in
    let fits = rw (← parts.front, ← parts.back) at e.0 in
    omega (arith, fits)

pub returns : goal.returns
returns c = let r = c.requires in
    let parts = c.split_at_mut-words.ensures in
    let p = rw (c.new-kept.ensures, parts.front, parts.back) at c.prune_scored-r.ensures.0 in
    let m = rw parts.front at c.prune_scored-r.auto.list in
    let o = rw parts.back at c.prune_scored-r.auto.out in
    let e = plan_fits c.args.self.now c.args.scratch.now r.0 r.1 r.2 c.max-width.ensures c.vector.ensures.bytes c.search_pool-k.ensures refl _ _ m o p in
    rw (parts.front, parts.back) (planned c.args.self.now c.args.scratch.now r.0 r.1 r.2 c.max-width.ensures c.vector.ensures.bytes c.search_pool-k.ensures refl _ _ m o p (repeated (omega arith) e.0 (rw (parts.front, parts.back) at (c.fill.ensures.after (λ y e. e)))))
