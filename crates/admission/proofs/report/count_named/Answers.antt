use Rattle.admission.proofs.Naming.{naming_none, naming_next, naming_done}
use Rattle.admission.proofs.report.count_named.Goals as goal

pub loop-i-init : goal.loop-i-init
loop-i-init c = naming_none _ _

pub loop-i-preserved : goal.loop-i-preserved
loop-i-preserved c = naming_next c.loop-i.invariant c.loop-i-test.true c.stays.ensures c.from-n.ensures

pub returns : goal.returns
returns c = naming_done c.loop-i.invariant c.loop-i-test.false
