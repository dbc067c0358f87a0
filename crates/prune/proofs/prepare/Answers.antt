-- The three steps one after the other are the definition of what is selected from.
use mathlib.Core.Path.{refl}
use Rattle.prune.proofs.Scored.{prepared}
use Rattle.prune.proofs.prepare.Goals as goal

pub returns : goal.returns
returns c = prepared 750 _ _ _ _ refl c.keep_valid-k.auto.list c.sort_by_distance.auto.list c.keep_first.auto.list c.keep_valid-k.ensures c.sort_by_distance.ensures c.keep_first.ensures
