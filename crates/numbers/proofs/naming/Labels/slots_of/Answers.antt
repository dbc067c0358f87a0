use mathlib.Core.Path.{ap, ◌∙◌}
use native.Mathlib.Omega.{arith}
use Rattle.std.specs.Prelude.{unwrap_or}
use Rattle.slots.specs.Store.{blank}
use Rattle.numbers.proofs.Loops.{carrier_or}
use Rattle.numbers.proofs.Writes.{mapped_more}
use Rattle.numbers.proofs.naming.Labels.slots_of.Goals as goal

pub loop-i-preserved : goal.loop-i-preserved
loop-i-preserved c = mapped_more _ (omega arith) c.requires c.loop-i-test.true c.loop-i.invariant (c.unwrap_or.ensures ∙ ap (λ o. unwrap_or o blank) c.slot_of.ensures ∙ carrier_or _ _)
