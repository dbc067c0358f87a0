use Prim.Native.Nat.{◌+◌, ◌-◌, ◌*◌, ◌≤◌}
use mathlib.Core.Path.{sym}
use native.Mathlib.Omega.{arith}
use lib.ListN.{length}
use borrow.Rule.Slice.PartMut.{put_mid}
use Rattle.std.proofs.lemmas.List.{length-take-le}
use Rattle.deletion.proofs.Collecting.{collect_rows, collect_fits, collected}
use Rattle.deletion.proofs.plans.collect.Goals.{After-recover-q}
use Rattle.deletion.proofs.plans.collect.Goals as goal

pub recover-q-requires : goal.recover-q-requires
recover-q-requires c =
    let parts = c.split_at_mut-found.ensures in
    rw (parts.front, parts.back) (collect_rows c.requires c.vector-query.ensures.bytes c.search_pool-n.ensures c.args.graph.now.shape)

-- the row and those recovered fit in the words of a plan
fits : (c : After-recover-q)
    → (c.args.r + c.recover-q.result ≤ 320) × (2 * (c.args.r + c.recover-q.result) ≤ length (put_mid (2 * c.args.r) (640 - 2 * c.args.r) c.split_at_mut-found.result.1.now c.recover-q.new.to))
fits c =
    let parts = c.split_at_mut-found.ensures in
    rw parts.back (collect_fits c.requires c.vector-query.ensures.bytes c.search_pool-n.ensures _ (rw parts.back at c.recover-q.auto.to) (rw parts.front at c.recover-q.ensures))

pub overflow_add-r : goal.overflow_add-r
overflow_add-r c = omega (arith, (fits (goal.at.overflow_add-r c).After-recover-q).0)

pub overflow_mul-r-2 : goal.overflow_mul-r-2
overflow_mul-r-2 c = omega (arith, (fits (goal.at.overflow_mul-r-2 c).After-recover-q).0)

pub slice_bounds-sort_set-end : goal.slice_bounds-sort_set-end
slice_bounds-sort_set-end c = (fits (goal.at.slice_bounds-sort_set-end c).After-recover-q).1

pub slice_bounds-sort_set-end-2 : goal.slice_bounds-sort_set-end-2
slice_bounds-sort_set-end-2 c = sym (length-take-le (2 * (c.args.r + c.recover-q.result)) _ (fits (goal.at.slice_bounds-sort_set-end-2 c).After-recover-q).1)

pub returns : goal.returns
returns c =
    let parts = c.split_at_mut-found.ensures in
    rw (parts.front, parts.back)
    (collected c.requires c.vector-query.ensures.bytes c.search_pool-n.ensures _ (rw parts.back at c.recover-q.auto.to) (rw parts.front at c.recover-q.ensures) _ (rw parts.back at c.sort_set-k.auto.list) (rw parts.back at c.sort_set-k.ensures) _ (rw parts.back at c.keep_valid-m.auto.list) (rw parts.back at c.keep_valid-m.ensures))
