use Rattle.std.proofs.Common.{rules}
use Rattle.walk.proofs.Found.{found_by, found_settled}
use Rattle.walk.proofs.residual_search.Goals as goal

pub returns : goal.returns
returns c = found_settled (found_by _ c.requires.ready c.requires.ids_value c.max.ensures c.query_distance-dist.ensures.equals c.begin.ensures c.take_turns.ensures.0) (search rules)
