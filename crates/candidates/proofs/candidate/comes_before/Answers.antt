use Rattle.candidates.proofs.Exact.{before_made}
use Rattle.candidates.proofs.candidate.comes_before.Goals as goal

pub returns : goal.returns
returns c = before_made c.requires.0 c.requires.1 c.new.ensures c.new-2.ensures c.before-2.ensures
