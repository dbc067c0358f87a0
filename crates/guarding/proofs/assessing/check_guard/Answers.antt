use Rattle.guarding.proofs.Tested.{guard_short, guard_last}
use Rattle.guarding.proofs.assessing.check_guard.Goals as goal

pub returns-then-scratch_short : goal.returns-then-scratch_short
returns-then-scratch_short c = guard_short c.args.index c.args.scratch c.scratch_short.ensures c.if-scratch_short.true

pub returns : goal.returns
returns c = guard_last c.args.index c.args.scratch c.scratch_short.ensures c.if-scratch_short.false c.ok_or.ensures.value
