use mathlib.Core.Path.{◌∙◌}
use Rattle.candidates.proofs.Exact.{before_derived}
use Rattle.candidates.proofs.candidate.Candidate.before.Goals as goal

pub returns : goal.returns
returns c = c.lt.ensures ∙ before_derived c.args.self.dist c.args.other.dist c.args.self.id c.args.other.id
