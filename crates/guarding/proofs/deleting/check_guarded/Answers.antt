use mathlib.Core.Path.{sym, ◌∙◌}
use Rattle.index.proofs.Decide.{handed_on}
use Rattle.guarding.proofs.Tested.{turns_before, turns_over, turns_guard}
use Rattle.guarding.proofs.deleting.check_guarded.Goals as goal

pub returns-in_err-check_index : goal.returns-in_err-check_index
returns-in_err-check_index c =
    rw (handed_on c.from_residual.result c.from_residual.ensures.1) ((turns_before _ c.args.scratch (rw c.outputs_short-wrong.ensures at c.check_index.ensures) c.in_err-check_index.was, tt))

pub returns-then-delete_over : goal.returns-then-delete_over
returns-then-delete_over c = (turns_over _ c.args.scratch (rw c.outputs_short-wrong.ensures at c.check_index.ensures) c.in_ok-check_index.was (sym c.delete_over.ensures ∙ c.if-delete_over.true), tt)

pub returns : goal.returns
returns c = (
  turns_guard _ c.args.scratch (rw c.outputs_short-wrong.ensures at c.check_index.ensures) c.in_ok-check_index.was (sym c.delete_over.ensures ∙ c.if-delete_over.false) c.check_guard.ensures.0,
  c.check_guard.ensures.1,
)
