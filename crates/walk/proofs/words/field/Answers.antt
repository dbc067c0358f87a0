use mathlib.Core.Path.{refl}
use Rattle.walk.specs.Inner.Scratch.{field}
use Rattle.walk.proofs.words.field.Goals as goal

pub returns : goal.returns
unfolding field
returns c = refl
