use Rattle.landmarks.specs.Inner.Samples.{remains}
use Rattle.admission.proofs.Pooling.{Keeping}
use Rattle.admission.proofs.pool.keep_landmarks.Given as goal

abbrev pub invariant-loop-id : goal.invariant-loop-id
invariant-loop-id l = Keeping (remains l.marks l.ids) l.pool l.count l.initial.list l.list l.m l.id-index
