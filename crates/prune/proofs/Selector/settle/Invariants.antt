-- The factors from `j` on are still to be raised: raising them gives what raising all after `i` gives.
use Rattle.std.proofs.Common.{◌≡◌, ◌+◌, ◌*◌}
use Rattle.candidates.specs.Inner.Words.{cand}
use Rattle.vectors.specs.Space.{slot_distance}
use Rattle.vectors.specs.Lent.{space_of}
use Rattle.prune.proofs.Settling.{Raising}
use Rattle.prune.proofs.Selector.settle.Given as goal

abbrev pub invariant-loop-j : goal.invariant-loop-j
invariant-loop-j g l = Raising l.alpha (slot_distance (space_of l.fn.self.kept.now.space)) l.list l.n (cand l.list (2 * l.i)) l.initial.factors (l.i + 1) l.factors l.j × (l.kept.space ≡ l.fn.self.kept.now.space)
