use Rattle.std.proofs.Common.{w32, arith}
use Rattle.std.proofs.lemmas.Simd.{sum_fits}
use Rattle.distances.proofs.Sums.{joined_fits, joined_measured}
use Rattle.distances.proofs.joined.Goals as goal

pub overflow_add-result : goal.overflow_add-result
overflow_add-result g c = sum_fits w32 0 c.lane_sums.result (omega (arith, joined_fits c.requires c.type_inv.a c.type_inv.b c.lane_sums.ensures))

pub returns : goal.returns
returns g c = joined_measured c.requires c.type_inv.a c.type_inv.b c.lane_sums.ensures
