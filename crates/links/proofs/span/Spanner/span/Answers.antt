use mathlib.Core.Path.{◌∙◌}
use Rattle.links.proofs.Spanning.{spanning_none, spanning_asks, spanning_more, spanning_done}
use Rattle.links.proofs.span.Spanner.span.Goals as goal

pub loop-i-init : goal.loop-i-init
loop-i-init c = spanning_none _ _ _ _ _ _ _ c.requires.0 c.requires.3

pub connect-t-requires : goal.connect-t-requires
connect-t-requires c =
    let asks = spanning_asks c.loop-i.invariant c.loop-i-test.true in
    (asks.0, asks.1, c.loop-i.auto.connected ∙ c.requires.1, c.loop-i.auto.near ∙ c.requires.2, asks.2)

pub loop-i-preserved : goal.loop-i-preserved
loop-i-preserved c = spanning_more c.loop-i.invariant c.loop-i-test.true _ c.connect-t.auto.remaining c.connect-t.ensures c.connect-t.auto.pairs

pub returns : goal.returns
returns c = spanning_done c.loop-i.invariant c.loop-i-test.false
