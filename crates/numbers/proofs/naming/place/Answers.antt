use mathlib.Core.Path.{refl, ◌∙◌}
use lib.ListN.{length}
use borrow.Author.Tests.{le-ltb}
use Rattle.numbers.proofs.Loops.{met_then, met_else}
use Rattle.numbers.proofs.naming.place.Goals.{then-r-order, else-r-order}
use Rattle.numbers.proofs.naming.place.Goals as goal

pub returns : goal.returns
returns c =
    elim c.if-r-order.branch [
      | then-r-order w ↦ met_then c.requires.1 c.below-r.ensures w.if-r-order.true refl w.then_some-is c.then_some.ensures
      | else-r-order w ↦ met_else c.requires.1 c.below-r.ensures w.if-r-order.false (w.then_some-is ∙ le-ltb c.below-r.result (length c.args.order.now) w.if-r-order.false) c.then_some.ensures
    ]
