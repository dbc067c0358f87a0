use Rattle.insertion.proofs.Batching.{NextPart, chunk_fits, chunking_more}
use mathlib.Core.Path.{◌∙◌}
use Rattle.insertion.proofs.inserter.Inserter.insert_chunks.Goals as goal

pub split_at-requires : goal.split_at-requires
split_at-requires c = let i = c.in-Some.ensures.steps in
    let n : NextPart c.loop-part.part-iterator.rest.now c.in-Some.part.now c.next.new.self.rest.now = record { whole = i.1.0; long = i.1.1 ∙ rw c.loop-part.invariant.1; some = i.1.2 } in
    chunk_fits c.requires.0 c.loop-part.invariant.0 n

pub loop-part-preserved : goal.loop-part-preserved
loop-part-preserved c = let i = c.in-Some.ensures.steps in
    let n : NextPart c.loop-part.part-iterator.rest.now c.in-Some.part.now c.next.new.self.rest.now = record { whole = i.1.0; long = i.1.1 ∙ rw c.loop-part.invariant.1; some = i.1.2 } in
    (chunking_more c.requires.0 c.loop-part.invariant.0 n c.split_at.ensures.front c.split_at.ensures.back c.insert_chunk.ensures, i.0 ∙ c.loop-part.invariant.1)
