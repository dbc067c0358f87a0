use mathlib.Core.Path.{refl}
use native.Mathlib.Omega.{arith}
use Rattle.walk.proofs.Entering.{entered_room, entered_full, entered_not, less_small, less_order}
use Rattle.walk.proofs.words.List.enter.Goals as goal

pub returns-then-n-self : goal.returns-then-n-self
returns-then-n-self c = (entered_room c.if-n-self.true (omega (arith, c.if-n-self.true, c.requires.0.most)) c.requires.1 c.insert_first-place.ensures c.min-self.ensures, record { words = refl; beam = refl })

pub returns-then-dist_at-dist : goal.returns-then-dist_at-dist
returns-then-dist_at-dist c =
    (entered_not c.if-n-self.false (omega (arith, c.requires.0.some, c.if-n-self.false)) c.dist_at.ensures c.requires.1 c.if-dist_at-dist.true, record { words = refl; beam = refl })

pub insert_first-place-requires-2 : goal.insert_first-place-requires-2
insert_first-place-requires-2 c = (omega (arith, c.requires.0), c.requires.2, less_small (omega (arith, c.requires.0, c.if-n-self.false)) c.requires.0, less_order (omega (arith, c.requires.0, c.if-n-self.false)) c.requires.0)

pub returns : goal.returns
returns c =
    (entered_full c.if-n-self.false (omega (arith, c.requires.0)) c.dist_at.ensures (omega (arith, c.requires.0)) c.requires.1 c.if-dist_at-dist.false c.insert_first-place-2.ensures c.min-self-2.ensures, record { words = refl; beam = refl })
