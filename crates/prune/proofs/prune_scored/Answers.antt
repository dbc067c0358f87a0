-- The passes over what is selected from.
use Rattle.std.proofs.Common.{rules}
use Rattle.prune.proofs.Scored.{still_given, still_few, pruned}
use Rattle.prune.proofs.prune_scored.Goals as goal

pub pick-requires : goal.pick-requires
pick-requires g c =
    let space = c.args.kept.now.space in
    let m = c.prepare-m in
    (search rules, (still_given space c.requires _ m.auto.list m.ensures, still_few space c.requires _ m.auto.list m.ensures))

pub returns : goal.returns
returns g c = (pruned c.args.kept.now.space c.requires _ c.prepare-m.auto.list c.prepare-m.ensures c.pick.ensures.0, c.pick.ensures.1)
