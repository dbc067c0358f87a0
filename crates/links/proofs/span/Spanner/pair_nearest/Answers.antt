use mathlib.Core.Path.{◌∙◌}
use native.Mathlib.Omega.{arith}
use lib.ListN.{length-take}
use Rattle.std.proofs.lemmas.List.{length-take-le}
use Rattle.links.proofs.Spanning.{near_paired}
use Rattle.links.proofs.span.Spanner.pair_nearest.Goals as goal

pub returns : goal.returns
returns c =
    let long = c.sort_by_distance.auto.list ∙ c.score.auto.to ∙ length-take-le _ c.args.near.now c.requires.1 in
    near_paired _ _ _ _ c.args.self.now.degree c.args.connected.now _ _ c.score.ensures c.sort_by_distance.ensures long c.min-n.ensures c.args.self.now.degree_most _ _
    (omega (arith, length-take c.min-n.result c.args.pairs.now)) c.pair_each.ensures
