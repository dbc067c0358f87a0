use Rattle.walk.proofs.Found.{pool_live, pool_dead}
use Rattle.walk.proofs.search_pool.Goals as goal

pub returns-then-is_valid : goal.returns-then-is_valid
returns-then-is_valid c = pool_live c.if-is_valid.ensures c.graph_search.ensures

pub returns : goal.returns
returns c = pool_dead _ c.if-is_valid.ensures
