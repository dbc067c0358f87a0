use Rattle.std.proofs.Common.{refl}
use Rattle.std.proofs.lemmas.Result.{IfOk-weaker}
use Rattle.guards.proofs.enabling.enable.Goals as goal

pub returns-clause-read : goal.returns-clause-read
returns-clause-read c =
    IfOk-weaker c.expect_enabled.result _ _
    (λ _ read. record { count = c.argument.result; multiplier = c.argument-2.result; sample = c.argument-3.result; beam = c.argument-4.result; left = c.argument-4.new.self.rest; given = (c.argument.new.self.rest, c.argument.ensures, (c.argument-2.new.self.rest, c.argument-2.ensures, (c.argument-3.new.self.rest, c.argument-3.ensures, (c.argument-4.new.self.rest, c.argument-4.ensures, refl)))); answer = c.enable_guard-enabled.result; pool = _; read = read; index = c.expect_enabled.ensures.index })
    c.expect_enabled.ensures.read
