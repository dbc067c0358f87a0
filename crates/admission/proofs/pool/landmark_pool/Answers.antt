use mathlib.Core.Path.{refl}
use Rattle.admission.proofs.Pooling.{pooled}
use Rattle.admission.proofs.pool.landmark_pool.Goals as goal

pub returns : goal.returns
returns c = pooled c.requires refl c.select_landmarks.ensures
