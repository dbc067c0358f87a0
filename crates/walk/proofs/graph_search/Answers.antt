use Rattle.walk.proofs.Found.{found_all}
use Rattle.walk.proofs.graph_search.Goals as goal

pub returns : goal.returns
returns c = found_all c.requires c.residual_search.ensures
