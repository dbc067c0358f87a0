use mathlib.Core.Path.{refl}
use native.Mathlib.Omega.{arith}
use Rattle.sorting.proofs.Search.{halving_up, halving_down}
use Rattle.sorting.proofs.look_up.below.Goals as goal

pub loop-low-preserved-then-keys-s : goal.loop-low-preserved-then-keys-s
loop-low-preserved-then-keys-s c = halving_up c.loop-low.invariant c.requires.1 _ (omega arith) (omega arith) refl c.if-keys-s.true

pub loop-low-preserved : goal.loop-low-preserved
loop-low-preserved c = halving_down c.loop-low.invariant c.requires.1 _ (omega arith) (omega arith) refl c.if-keys-s.false
