use native.Mathlib.Omega.{arith}
use mathlib.Core.Path.{refl}
use Rattle.insertion.proofs.Chaining.{linking_none, link_turn, link_words, link_set}
use Rattle.insertion.proofs.chains.link.Goals as goal

pub loop-k-init : goal.loop-k-init
loop-k-init c = linking_none _ _ _ _ c.requires.1

pub bounds-scratch-head : goal.bounds-scratch-head
bounds-scratch-head c =
    let l = link_words c.requires.0 c.loop-k.invariant c.loop-k-test.true refl c.id_at.ensures refl in
    omega (arith, l.0, l.1, l.2, l.3)

pub bounds-scratch-head-in-loop-k : goal.bounds-scratch-head-in-loop-k
bounds-scratch-head-in-loop-k c = link_set c.requires.0 c.loop-k.invariant c.loop-k-test.true refl c.id_at.ensures refl _ _

pub loop-k-preserved : goal.loop-k-preserved
loop-k-preserved c = link_turn c.requires.0 c.loop-k.invariant c.loop-k-test.true refl c.id_at.ensures refl
