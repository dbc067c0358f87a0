use mathlib.Core.Path.{◌∙◌}
use Rattle.std.proofs.Common.{rules}
use borrow.Author.Tests.{tests}
use Rattle.std.specs.Prelude.{is_some}
use Rattle.std.proofs.lemmas.Iterator.{YieldsList-from_slice}
use Rattle.std.proofs.lemmas.Iterator.Search.{any_from_yields_List}
use Rattle.numbers.specs.Inner.Held.{carrier}
use Rattle.numbers.proofs.Loops.{any_carried}
use Rattle.numbers.proofs.naming.Labels.any_live.Goals as goal

pub returns : goal.returns
returns c =
    any_from_yields_List (λ m. is_some (carrier c.args.self.now.numbers.now m)) _ _ _ c.any.ensures.ran (YieldsList-from_slice c.args.given.now c.iter.ensures.rest) (λ x b q k. search (rules, tests))
    ∙ any_carried c.args.self.now.listed c.args.given.now
