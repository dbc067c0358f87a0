use Rattle.candidates.specs.Candidates.{ids}
use Rattle.candidates.specs.Inner.Words.{cands}
use Rattle.links.specs.Inner.Linking.{from_each, pairs_of, Linked}
use Rattle.links.proofs.sources.apply_sources.Given as goal

abbrev pub invariant-loop-i : goal.invariant-loop-i
invariant-loop-i l = Linked l.initial.pruner (from_each (pairs_of l.pairs) (ids (cands l.list 0 l.i))) l.pruner
