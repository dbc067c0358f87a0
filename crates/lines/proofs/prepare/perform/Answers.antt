use Rattle.std.proofs.Common.{refl}
use Rattle.std.proofs.lemmas.Result.{IfOk-weaker}
use Rattle.lines.proofs.Given.{given_weaker}
use Rattle.lines.proofs.prepare.perform.Goals as goal

pub returns-in-Give : goal.returns-in-Give
returns-in-Give c =
    rw c.in-Give.is (IfOk-weaker c.give.result _ _ (λ _ g. ((g.0, g.1, given_weaker (λ number word is. is.1) _ _ _ _ _ g.2, g.3), refl)) c.give.ensures)

pub returns-in-Rows : goal.returns-in-Rows
returns-in-Rows c =
    rw c.in-Rows.is (IfOk-weaker c.give-in-Rows.result _ _ (λ _ g. ((g.0, g.1, given_weaker (λ number word is. is.1) _ _ _ _ _ g.2, g.3), refl)) c.give-in-Rows.ensures)

pub returns-in-Numbers : goal.returns-in-Numbers
returns-in-Numbers c =
    rw c.in-Numbers.is (IfOk-weaker c.give-in-Numbers.result _ _ (λ _ g. ((g.0, g.1, given_weaker (λ number word is. is.1) _ _ _ _ _ g.2, g.3), refl)) c.give-in-Numbers.ensures)

pub returns-in-Weights : goal.returns-in-Weights
returns-in-Weights c =
    rw c.in-Weights.is (IfOk-weaker c.give-in-Weights.result _ _ (λ _ g. ((g.0, g.1, given_weaker (λ number word is. is.1) _ _ _ _ _ g.2, g.3), refl)) c.give-in-Weights.ensures)
