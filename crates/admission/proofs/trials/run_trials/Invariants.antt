use mathlib.Core.List.{[]}
use Rattle.slots.specs.Lent.{graph_of}
use Rattle.admission.specs.Inner.Trials.{meets}
use Rattle.admission.proofs.Pooling.{Counting}
use Rattle.admission.proofs.Trying.{Losing}
use Rattle.admission.proofs.trials.run_trials.Given as goal

abbrev pub invariant-loop-landmark : goal.invariant-loop-landmark
invariant-loop-landmark l =
    let before = meets (graph_of l.trial.graph) [] l.trial.beam l.trial.entry in
    let after = meets (graph_of l.trial.graph) l.ids l.trial.beam l.trial.entry in
    Counting before l.list l.t.baseline l.landmark-index × Counting after l.list l.t.residual l.landmark-index
    × Losing before after l.list l.initial.lost l.lost l.t.lost l.landmark-index
