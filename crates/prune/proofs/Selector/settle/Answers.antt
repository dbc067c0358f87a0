use Rattle.std.proofs.Common.{refl, ◌∙◌}
use Rattle.candidates.specs.Quotient.{largest}
use Rattle.prune.proofs.Settling.{raising_more, raising_done}
use Rattle.prune.proofs.Selector.settle.Goals as goal

pub loop-j-preserved : goal.loop-j-preserved
loop-j-preserved g c = (raising_more c.loop-j.invariant.0 c.loop-j-test.true c.dist_at-own.ensures c.id_at-x.ensures c.id_at-y.ensures (rw c.loop-j.invariant.1 at c.raised.ensures.0), c.raised.ensures.1 ∙ c.loop-j.invariant.1)

pub returns : goal.returns
unfolding largest
returns g c = (
  raising_done c.args.self.now.factors.now c.requires c.loop-j-test.false c.loop-j.invariant.0,
  refl,
  record { alpha = refl; kept = refl; space = c.loop-j.invariant.1; factors = refl; count = c.loop-j.invariant.0.size; list = refl; out = refl; room = refl },
)
