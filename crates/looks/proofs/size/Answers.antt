use Rattle.std.proofs.Common.{rules, refl}
use Rattle.std.proofs.lemmas.Result.{IfOk-weaker}
use Rattle.text.specs.Inner.Text.{Reads}
use Rattle.looks.proofs.size.Goals as goal

pub returns : goal.returns
returns c =
    let first : Reads c.args.line.now.rest c.number.new.self.rest c.in_ok-dim.dim = search rules in
    let second : Reads c.number.new.self.rest c.number-2.new.self.rest c.in_ok-capacity.capacity = search rules in
    let third : Reads c.number-2.new.self.rest c.number-3.new.self.rest c.in_ok-degree.degree = search rules in
    IfOk-weaker c.expect_size.result _ _ (λ _ read. record { dim = c.in_ok-dim.dim; capacity = c.in_ok-capacity.capacity; degree = c.in_ok-degree.degree; left = c.number-3.new.self.rest; asked = (c.number.new.self.rest, first, (c.number-2.new.self.rest, second, (c.number-3.new.self.rest, third, refl))); answer = c.scratch_words.result; is = c.scratch_words.ensures; read = read }) c.expect_size.ensures
