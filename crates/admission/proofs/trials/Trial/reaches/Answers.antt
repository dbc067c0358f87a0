use Rattle.admission.proofs.Trying.{walks_meets}
use Rattle.admission.proofs.trials.Trial.reaches.Goals as goal

pub returns : goal.returns
returns c = walks_meets c.args.self.now.graph.bytes c.requires.walks c.requires.ids_value.1 c.args.ids.now c.vector-query.ensures.bytes c.residual_search-n.ensures c.has_id.ensures
