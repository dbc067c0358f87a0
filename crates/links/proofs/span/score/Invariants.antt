use mathlib.Core.Path.{◌≡◌}
use Rattle.vectors.specs.Lent.{measure_of}
use Rattle.candidates.specs.Candidates.{scored, ids}
use Rattle.candidates.specs.Inner.Words.{cands}
use Rattle.links.specs.Inner.Linking.{between}
use Rattle.links.proofs.span.score.Given as goal

abbrev pub invariant-loop-k : goal.invariant-loop-k
invariant-loop-k l = cands l.to 0 l.k ≡ scored (λ x. between (measure_of l.space.weights) l.space.dim l.space.vectors.now x l.y) (ids (cands l.list 0 l.k))
