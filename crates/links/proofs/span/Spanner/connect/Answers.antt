use native.Mathlib.Omega.{arith}
use Prim.Native.Nat.{◌*◌, ◌/◌}
use lib.ListN.{length}
use Rattle.std.proofs.lemmas.List.{length-take-le}
use Rattle.vectors.specs.Lent.{measure_of}
use Rattle.candidates.proofs.Words.{cands_length}
use Rattle.links.proofs.Spanning.{Next, connect_within, connect_near, connect_stored, connect_done}
use Rattle.links.proofs.span.Spanner.connect.Goals.{After-id_at-next}
use Rattle.links.proofs.span.Spanner.connect.Goals as goal

pub id_at-next-requires : goal.id_at-next-requires
id_at-next-requires c = omega (arith, c.nearest-i.ensures.within, cands_length c.args.remaining.now 0 (length c.args.remaining.now / 2))

-- the next is found
found : (c : After-id_at-next) → Next (measure_of c.args.self.now.space.weights) c.args.self.now.space.dim c.args.self.now.space.vectors.now c.args.connected.now c.args.remaining.now c.args.k c.nearest-i.result c.id_at-next.result
found c = record { planned = c.requires.0; some = c.requires.1; long = c.requires.2; nearest = c.nearest-i.ensures; read = c.id_at-next.ensures }

pub overflow_mul-k : goal.overflow_mul-k
overflow_mul-k c = omega (arith, (connect_within (found (goal.at.overflow_mul-k c).After-id_at-next)).1)

pub slice_bounds-pair_nearest-end : goal.slice_bounds-pair_nearest-end
slice_bounds-pair_nearest-end c = omega (arith, (connect_within (found (goal.at.slice_bounds-pair_nearest-end c).After-id_at-next)).1)

pub slice_bounds-pair_nearest-end-2 : goal.slice_bounds-pair_nearest-end-2
slice_bounds-pair_nearest-end-2 c = omega (arith, length-take-le (2 * c.args.k) c.args.connected.now (omega (arith, (connect_within (found (goal.at.slice_bounds-pair_nearest-end-2 c).After-id_at-next)).1)))

pub pair_nearest-r-requires : goal.pair_nearest-r-requires
pair_nearest-r-requires c =
    let e = connect_near (found (goal.at.pair_nearest-r-requires c).After-id_at-next) in
    (e.0, omega (arith, e.1, c.requires.3), c.requires.4)

pub put-requires : goal.put-requires
put-requires c = (connect_within (found (goal.at.put-requires c).After-id_at-next)).1

pub put-requires-2 : goal.put-requires-2
put-requires-2 c = (connect_within (found (goal.at.put-requires-2 c).After-id_at-next)).0

pub lower-requires : goal.lower-requires
lower-requires c = connect_stored (found (goal.at.lower-requires c).After-id_at-next) _ c.pair_nearest-r.ensures c.put.ensures c.dist_at-dist.ensures c.id_at-id.ensures c.put-2.ensures

pub returns : goal.returns
returns c = connect_done (found (goal.at.returns c).After-id_at-next) _ c.pair_nearest-r.ensures c.put.ensures c.dist_at-dist.ensures c.id_at-id.ensures c.put-2.ensures _ c.lower.auto.list c.lower.ensures
