use mathlib.Core.Path.{◌≡◌, sym}
use native.Mathlib.Omega.{arith}
use lib.ListN.{length}
use Rattle.numbers.specs.Inner.Chunks.{Chunk}
use Rattle.numbers.proofs.Twice.{chunk_placed, chunk_made, sifted, checked_early, checked_late}
use Rattle.numbers.proofs.fresh.chunk_repeats.Goals.{After-sort}
use Rattle.numbers.proofs.fresh.chunk_repeats.Goals as goal

-- what is sorted is the chunk
made : (c : After-sort) → (length c.sort.new.order ≡ length c.args.order.now) × Chunk c.args.given.now c.sort.new.order c.args.a (length c.args.order.now)
made c = chunk_made c.args.given.now c.count_up.new.order c.args.a (length c.args.order.now) c.requires.0 c.count_up.ensures c.count_up.auto.order c.sort.ensures

pub sort-requires : goal.sort-requires
sort-requires c = rw c.count_up.auto.order (chunk_placed c.args.given.now c.count_up.new.order c.args.a (length c.args.order.now) c.requires.0 c.count_up.ensures (omega (arith, c.count_up.auto.order)))

pub again_later-requires : goal.again_later-requires
again_later-requires c = let k = made (goal.at.again_later-requires c).After-sort in rw k.0 k.1

pub returns-then-falls : goal.returns-then-falls
returns-then-falls c = let k = made (goal.at.returns-then-falls c).After-sort in checked_early (sifted k.1 (sym k.0) c.falls.ensures) c.if-falls.true

pub returns-else-falls : goal.returns-else-falls
returns-else-falls c =
    let k = made (goal.at.returns-else-falls c).After-sort in
    checked_late k.1 (sifted k.1 (sym k.0) c.falls.ensures) c.if-falls.false (rw k.0 at c.again_later.ensures)
