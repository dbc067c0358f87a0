-- All factors are 0.
use Rattle.std.proofs.lemmas.List.{take-replicate}
use Rattle.prune.proofs.Scored.{picked}
use Rattle.prune.proofs.pick.Goals as goal

pub returns : goal.returns
returns g c = (picked c.args.list.now _ _ (take-replicate _ 750 _ c.requires.1) c.run_passes.ensures.0, c.run_passes.ensures.1)
