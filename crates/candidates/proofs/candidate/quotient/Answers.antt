use Rattle.vectors.specs.Distance.{f32}
use Rattle.candidates.specs.Quotient.{largest}
use Rattle.candidates.proofs.Exact.{quotient_zero, quotient_other}
use Rattle.candidates.proofs.candidate.quotient.Goals as goal

pub returns-then-pair-eq0 : goal.returns-then-pair-eq0
unfolding largest
returns-then-pair-eq0 c = quotient_zero _ _ c.if-pair-eq0.true

pub returns : goal.returns
unfolding f32
returns c = quotient_other _ _ c.if-pair-eq0.false
