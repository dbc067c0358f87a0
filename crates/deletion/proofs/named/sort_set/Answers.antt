use mathlib.Core.Path.{◌∙◌}
use Rattle.deletion.proofs.Naming.{risen}
use Rattle.deletion.proofs.named.sort_set.Goals as goal

pub returns : goal.returns
returns c = risen _ _ _ (c.sort_by_distance.auto.list ∙ c.key.auto.list) c.key.ensures c.sort_by_distance.ensures c.keep_first.ensures
