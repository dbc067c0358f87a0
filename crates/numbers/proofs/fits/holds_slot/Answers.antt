use mathlib.Core.Path.{◌∙◌}
use Rattle.std.proofs.Common.{rules}
use mathlib.Core.Bool.{not}
use borrow.Author.Tests.{tests}
use lib.Dec.{eqb}
use Rattle.std.proofs.lemmas.Iterator.{YieldsList-from_slice}
use Rattle.std.proofs.lemmas.Iterator.Search.{any_from_yields_List}
use Rattle.slots.specs.Store.{blank}
use Rattle.numbers.proofs.Tests.{blank_any}
use Rattle.numbers.proofs.fits.holds_slot.Goals as goal

pub returns : goal.returns
returns c =
    let xs = c.args.words.now in
    any_from_yields_List (λ s. not (eqb s blank)) _ _ _ c.any.ensures.ran (YieldsList-from_slice xs cc) (λ x b q k. search (rules, tests)) ∙ blank_any xs
