-- What is left of the candidates and of the thresholds, from here on, gives what all of them give from the start.
use lib.ListN.{length}
use Rattle.candidates.specs.Inner.Words.{cands}
use Rattle.vectors.specs.Space.{slot_distance}
use Rattle.vectors.specs.Lent.{space_of}
use Rattle.prune.specs.Lent.{SameSelector}
use Rattle.prune.proofs.Selecting.{Scanning, Passing}
use Rattle.prune.proofs.Selector.select.Given as goal

abbrev pub invariant-loop-i : goal.invariant-loop-i
invariant-loop-i g l = Scanning l.degree l.alpha (slot_distance (space_of l.fn.self.kept.now.space)) (cands l.fn.self.list.now 0 (length l.fn.self.factors.now)) l.n l.threshold l.counter l.initial.self.factors.now l.initial.self.out.now l.initial.m l.self.factors.now l.self.out.now l.m l.i × SameSelector l.fn.self l.self

abbrev pub invariant-passes : goal.invariant-passes
invariant-passes g l = Passing l.degree l.alpha (slot_distance (space_of l.fn.self.kept.now.space)) (cands l.fn.self.list.now 0 (length l.fn.self.factors.now)) l.n l.fn.self.factors.now l.self.factors.now l.self.out.now l.m l.threshold l.counter × SameSelector l.fn.self l.self
