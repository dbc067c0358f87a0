use Rattle.std.proofs.Common.{rules, refl}
use Rattle.std.proofs.lemmas.Result.{IfOk-weaker}
use Rattle.text.specs.Inner.Text.{Reads}
use Rattle.looks.proofs.read.Goals as goal

pub returns : goal.returns
returns c =
    let first : Reads c.args.line.now.rest c.number.new.self.rest c.in_ok-number.field-0 = search rules in
    let second : Reads c.number.new.self.rest c.number-2.new.self.rest c.in_ok-number-2.field-0 = search rules in
    let third : Reads c.number-2.new.self.rest c.number-3.new.self.rest c.in_ok-number-3.field-0 = search rules in
    IfOk-weaker c.expect_value.result _ _ (λ _ read. record { what = c.in_ok-number.field-0; slot = c.in_ok-number-2.field-0; place = c.in_ok-number-3.field-0; left = c.number-3.new.self.rest; asked = (c.number.new.self.rest, first, (c.number-2.new.self.rest, second, (c.number-3.new.self.rest, third, refl))); answer = c.read-got.result; read = read }) c.expect_value.ensures
