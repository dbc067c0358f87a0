use mathlib.Core.Path.{◌≡◌}
use lib.ListN.{length}
use Rattle.vectors.specs.Lent.{measure_of}
use Rattle.links.specs.Inner.Linking.{between, Linked}
use Rattle.links.specs.Inner.Planning.{plans_at}
use Rattle.links.proofs.plan.apply_all.Given as goal

abbrev pub invariant-loop-j : goal.invariant-loop-j
invariant-loop-j l =
    let space = l.initial.pruner.kept.now.space in
    Linked l.initial.pruner (plans_at (between (measure_of space.weights) space.dim space.vectors.now) l.table.degree l.table.entry l.plans l.table.stats l.table.plans l.j) l.pruner × (length l.pairs ≡ 5120)
