use mathlib.Core.Path.{refl}
use Rattle.vectors.specs.Distance.{f32}
use Rattle.candidates.proofs.candidate.Candidate.new.Goals as goal

pub returns : goal.returns
unfolding f32
returns c = (refl, refl)
