use Rattle.std.proofs.lemmas.Result.{IfOk-weaker}
use Rattle.guards.proofs.assessing.assess.Goals as goal

pub returns : goal.returns
returns c = IfOk-weaker c.expect_assessed.result _ _ (λ _ read. (_, _, c.assess_delete-assessed.result, read)) c.expect_assessed.ensures
