-- A term is its weight times the square of what both ways of subtracting give together.
use Rattle.std.proofs.Common.{rules, ◌≡◌, ◌*◌}
use lib.ListN.{get_or}
use Rattle.vectors.specs.Distance.{squared_difference}
use Rattle.vectors.proofs.Distances.{square_of}
use Rattle.distances.proofs.lanes.term.Goals as goal

pub returns : goal.returns
returns g c =
    let d = c.abs_diff.result in
    let e : d * d ≡ squared_difference (get_or c.args.a.now c.args.i 0) (get_or c.args.b.now c.args.i 0) = square_of _ _ (search rules) in
    rw (c.from.ensures, c.weight.ensures, c.from-d.ensures, e)
