use mathlib.Core.Path.{◌≡◌}
use Rattle.insertion.proofs.Batching.{Chunking}
use Rattle.insertion.proofs.inserter.Inserter.insert_chunks.Given as goal

abbrev pub invariant-loop-part : goal.invariant-loop-part
invariant-loop-part l = Chunking l.bytes l.slots l.initial.self l.self l.rest l.part-iterator.rest.now × (l.part-iterator.size ≡ 256)
