-- The ids from `id-index` on are still to be marked.
use Rattle.walk.proofs.Marks.{Leaving}
use Rattle.walk.proofs.words.leave_out.Given as goal

abbrev pub invariant-loop-id : goal.invariant-loop-id
invariant-loop-id l = Leaving l.capacity l.ids l.initial.scratch l.scratch l.id-index
