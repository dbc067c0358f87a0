use native.Mathlib.Omega.{arith}
use Rattle.numbers.proofs.Listing.{struck}
use Rattle.numbers.proofs.Loops.{filled_past}
use Rattle.numbers.proofs.summary.strike.Goals as goal

pub returns : goal.returns
returns c = struck c.requires.1 c.zero_dead.ensures c.keep_live-n.ensures (filled_past _ c.keep_live-n.result _ (omega (arith, c.keep_live-n.ensures.most, c.keep_live-n.ensures.size)) (c.fill.ensures.after (λ y e. e)))
