use Rattle.insertion.proofs.ChunkRows.{link_chainable, linked}
use Rattle.insertion.proofs.planning.Planner.link_plans.Goals as goal

pub chain-requires : goal.chain-requires
chain-requires c = link_chainable c.args.self.now.fillable.few c.requires c.args.self.now.parts c.plan_all-n.ensures

pub returns : goal.returns
returns c = linked c.args.self.now.fillable.few c.requires c.args.self.now.parts c.plan_all-n.ensures c.chain.ensures
