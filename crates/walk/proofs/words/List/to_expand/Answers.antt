use native.Mathlib.Omega.{arith}
use Rattle.walk.proofs.words.List.to_expand.Goals as goal

pub ends-requires : goal.ends-requires
ends-requires c = ((c.unexpanded.ensures.1 _ c.in_ok-i.was).1, omega (arith, c.requires.long, c.requires.most))
