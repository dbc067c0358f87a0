-- The first `place` elements are copied.
use Rattle.std.proofs.Common.{◌≡◌, take}
use Rattle.lists.specs.Lists.{put_front}
use Rattle.slots.proofs.parts.copy.Given as goal

abbrev pub invariant-loop-place : goal.invariant-loop-place
invariant-loop-place g l = l.to ≡ put_front (take l.place l.from) l.initial.to
