use native.Mathlib.Omega.{arith}
use Rattle.walk.proofs.Marks.{cleared}
use Rattle.walk.proofs.words.clear.Goals as goal

pub returns : goal.returns
returns c = cleared c.requires (omega arith) (omega arith) (c.fill.ensures.after (λ y e. e))
