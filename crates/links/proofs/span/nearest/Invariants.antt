use Rattle.candidates.specs.Inner.Words.{cands}
use Rattle.links.specs.Inner.Planning.{Nearest}
use Rattle.links.proofs.span.nearest.Given as goal

abbrev pub invariant-loop-i : goal.invariant-loop-i
invariant-loop-i l = Nearest (cands l.list 0 l.i) l.best
