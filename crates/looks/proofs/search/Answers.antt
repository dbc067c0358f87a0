use Rattle.std.proofs.Common.{refl}
use Rattle.std.proofs.lemmas.Result.{IfOk-weaker}
use Rattle.looks.proofs.search.Goals as goal

pub returns : goal.returns
returns c =
    IfOk-weaker c.expect_found.result _ _
    (λ _ read. record { k = c.argument-k.result; beam = c.argument-beam.result; count = c.argument-count.result; asked = c.argument-count.new.self.rest; given = (c.argument-k.new.self.rest, c.argument-k.ensures, (c.argument-beam.new.self.rest, c.argument-beam.ensures, (c.argument-count.new.self.rest, c.argument-count.ensures, refl))); left = c.words-read.new.line.rest; answer = c.search-answer.result; slots = _; dists = _; figures = _; read = read })
    c.expect_found.ensures
