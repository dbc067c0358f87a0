use mathlib.Core.Path.{refl}
use Rattle.slots.proofs.Made.{new_by}
use Rattle.index.proofs.Makes.{front_whole}
use Rattle.index.proofs.making.write.Goals as goal

pub returns : goal.returns
returns c = (
  new_by c.requires.0 c.lay.ensures c.lay-2.ensures (c.fill.ensures.after (λ y e. e)) (c.fill-2.ensures.after (λ y e. e)) c.mark_given.ensures (c.fill-3.ensures.after (λ y e. e)),
  front_whole _ c.requires.1 c.copy.ensures,
  refl,
  refl,
  record { vectors = refl; targets = refl; edges = refl; versions = refl; marks = refl; pool = refl; numbers = refl; summary = refl; weights = refl },
)
