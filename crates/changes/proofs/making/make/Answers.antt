use Rattle.std.proofs.Common.{refl}
use Rattle.std.proofs.lemmas.Result.{IfOk-weaker}
use Rattle.changes.proofs.making.make.Goals as goal

pub returns-clause-read : goal.returns-clause-read
returns-clause-read c =
    IfOk-weaker c.expect_created.result _ _
    (λ _ read. record { dim = c.argument.result; capacity = c.argument-2.result; degree = c.argument-3.result; alpha = c.argument-4.result; entry = c.argument-5.result; count = c.argument-6.result; left = c.argument-6.new.self.rest; given = (c.argument.new.self.rest, c.argument.ensures, (c.argument-2.new.self.rest, c.argument-2.ensures, (c.argument-3.new.self.rest, c.argument-3.ensures, (c.argument-4.new.self.rest, c.argument-4.ensures, (c.argument-5.new.self.rest, c.argument-5.ensures, (c.argument-6.new.self.rest, c.argument-6.ensures, refl)))))); answer = c.create-created.result; read = read; index = c.expect_created.ensures.index })
    c.expect_created.ensures.read
