use lib.ListN.{length}
use Rattle.insertion.specs.Inner.Plans.{AllPlanned}
use Rattle.insertion.specs.Inner.Planning.{plan_by}
use Rattle.insertion.proofs.planning.Planner.plan_all.Given as goal

abbrev pub invariant-loop-i : goal.invariant-loop-i
invariant-loop-i l = AllPlanned l.self.graph.rows.degree (length l.self.graph.rows.marks.now) (plan_by l.self) l.initial.scratch l.self.at l.i l.n l.scratch
