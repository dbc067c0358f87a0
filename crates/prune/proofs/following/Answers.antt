-- The product, capped.
use Rattle.prune.specs.Prune.{growth}
use Rattle.prune.specs.Inner.Selecting.{next_threshold}
use Rattle.prune.proofs.following.Goals as goal

pub returns : goal.returns
unfolding next_threshold growth
returns c = cc
