use Rattle.index.proofs.Decide.{decided_before, decided_after, handed_on}
use Rattle.updating.proofs.deleting.check_delete.Goals as goal

pub returns-in_err-check_index : goal.returns-in_err-check_index
returns-in_err-check_index c = rw (handed_on c.from_residual.result c.from_residual.ensures.1) (decided_before c.check_index.ensures _ c.in_err-check_index.was)

pub returns-then-delete_over : goal.returns-then-delete_over
returns-then-delete_over c = decided_after c.check_index.ensures _ _ c.in_ok-check_index.was (rw (← c.if-delete_over.ensures))

pub returns-then-scratch_short : goal.returns-then-scratch_short
returns-then-scratch_short c = decided_after c.check_index.ensures _ _ c.in_ok-check_index.was (rw (← c.if-delete_over.ensures, ← c.if-scratch_short.ensures))

pub returns : goal.returns
returns c = decided_after c.check_index.ensures _ _ c.in_ok-check_index.was (rw (← c.if-delete_over.ensures, ← c.if-scratch_short.ensures))
