use mathlib.Core.Bool.{not, ◌&&◌}
use mathlib.Core.Path.{◌∙◌}
use lib.Dec.{eqb, leb}
use borrow.Author.Tests.{tests}
use Rattle.std.proofs.Common.{rules}
use Rattle.std.proofs.lemmas.Iterator.{YieldsList-from_slice}
use Rattle.std.proofs.lemmas.Iterator.Search.{any_from_yields_List}
use Rattle.slots.specs.Store.{blank}
use Rattle.index.proofs.Makes.{named_any}
use Rattle.index.proofs.making.names_bad.Goals as goal

pub returns : goal.returns
returns c =
    let xs = c.args.rows.now in
    any_from_yields_List (λ t. not (eqb t blank) && leb c.args.count t) _ _ _ c.any.ensures.ran (YieldsList-from_slice xs c.iter.ensures.rest) (λ x b q k. search (rules, tests)) ∙ named_any c.args.count xs
