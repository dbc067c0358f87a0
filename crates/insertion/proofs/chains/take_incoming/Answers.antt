use Rattle.insertion.proofs.Chaining.{taking_more, taking_less, list_put}
use mathlib.Core.Path.{refl}
use Rattle.insertion.proofs.chains.take_incoming.Goals as goal

pub loop-k-smaller : goal.loop-k-smaller
loop-k-smaller c =
    let f = c.loop-k.invariant in
    rw (c.put.ensures, list_put c.requires f c.loop-k-test.true _ _) (taking_less c.requires f c.loop-k-test.true refl c.dist_at-dist.ensures)

pub loop-k-preserved : goal.loop-k-preserved
loop-k-preserved c =
    let f = c.loop-k.invariant in
    rw (c.put.ensures, list_put c.requires f c.loop-k-test.true _ _) (taking_more c.requires f c.loop-k-test.true refl c.dist_at-dist.ensures)
