use native.Mathlib.Omega.{arith}
use Rattle.links.proofs.Spanning.{pairing_none, pairing_more}
use Rattle.links.proofs.span.pair_each.Goals as goal

pub loop-i-init : goal.loop-i-init
loop-i-init c = pairing_none _ _

pub loop-i-preserved : goal.loop-i-preserved
loop-i-preserved c = pairing_more _ _ _ c.loop-i.invariant (omega arith) c.id_at.ensures
