use Rattle.slots.specs.Store.{is_valid}
use Rattle.admission.proofs.Naming.{Naming}
use Rattle.admission.proofs.report.count_named.Given as goal

abbrev pub invariant-loop-i : goal.invariant-loop-i
invariant-loop-i l = Naming (is_valid l.marks) l.ids l.n l.i
