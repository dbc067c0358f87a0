-- A factor above alpha stays; another is at least the quotient.
use Rattle.std.proofs.Common.{refl}
use Rattle.prune.proofs.Settling.{raised_over, raised_to}
use Rattle.prune.proofs.raised.Goals as goal

pub returns-then-f-alpha : goal.returns-then-f-alpha
returns-then-f-alpha g c = (raised_over _ _ _ _ c.if-f-alpha.true, refl)

pub returns : goal.returns
returns g c = (raised_to _ _ _ c.if-f-alpha.false c.slot_distance-pair.ensures.0 c.quotient.ensures c.larger.ensures, c.slot_distance-pair.ensures.1)
