use Rattle.insertion.proofs.Filled.{FilledUpTo}
use Rattle.insertion.proofs.inserter.Inserter.fill_chunk.Given as goal

abbrev pub invariant-loop-i : goal.invariant-loop-i
invariant-loop-i l = FilledUpTo l.bytes l.slots l.initial.self l.self l.i
