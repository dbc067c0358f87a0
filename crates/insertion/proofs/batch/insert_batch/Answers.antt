use Rattle.slots.specs.Store.{Arrays}
use Rattle.insertion.proofs.Batching.{front_noted, batch_assigned, batch_inserted}
use Rattle.std.proofs.Common.{rules}
use mathlib.Core.Path.{refl, ap}
use Rattle.insertion.proofs.batch.insert_batch.Goals as goal

pub insert_chunks-requires : goal.insert_chunks-requires
insert_chunks-requires c = (batch_assigned c.requires.insertable refl (front_noted c.requires.insertable refl (rw (ap (λ (a : Arrays). a.marks) c.read.ensures) at c.free_slots.ensures)), c.requires.insertable.enough)

pub returns : goal.returns
returns c = let s = c.insert_chunks.ensures.same in
    let y = batch_inserted c.requires.insertable refl (front_noted c.requires.insertable refl (rw (ap (λ (a : Arrays). a.marks) c.read.ensures) at c.free_slots.ensures)) (rw s.how at c.insert_chunks.ensures.index) in
    (search (rules, y), search (rules, s.slices))
