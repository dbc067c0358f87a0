-- The plans that a planner makes. Assumes nothing.
use Rattle.std.specs.Prelude.{ℕ}
use Rattle.slots.specs.Lent.{graph_of}
use Rattle.insert.specs.Insert.{Plan}
use Rattle.insertion.specs.declared.planning.Planner.{Planner}
use Rattle.insertion.specs.Inner.Plans.{plan_at}

-- that of its k-th slot
abbrev pub plan_by : Planner → ℕ → Plan
plan_by p k = plan_at (graph_of p.graph) p.how.alpha p.how.entry p.how.beam p.bytes.now p.slots.now k
