use Rattle.std.proofs.Common.{length}
use Rattle.std.proofs.Math.Dec.{ltb}
use Rattle.std.proofs.lemmas.Bool.{lt-ltb, le-ltb}
use Rattle.slots.specs.Sizes.{limits}
use Rattle.index.proofs.Decide.{handed_on}
use Rattle.guarding.proofs.Tested.{turns_before, turns_over, turns_guard}
use Rattle.guarding.proofs.assessing.check_assess.Goals as goal

pub returns-in_err-check_index : goal.returns-in_err-check_index
returns-in_err-check_index c =
    rw (handed_on c.from_residual.result c.from_residual.ensures.1) ((turns_before (ltb limits.ids (length c.args.ids.now)) c.args.scratch (rw c.lists_short.ensures at c.check_index.ensures) c.in_err-check_index.was, tt))

pub returns-then-ids : goal.returns-then-ids
unfolding limits
returns-then-ids c =
    (turns_over (ltb limits.ids (length c.args.ids.now)) c.args.scratch (rw c.lists_short.ensures at c.check_index.ensures) c.in_ok-check_index.was (lt-ltb 256 (length c.args.ids.now) c.if-ids.true), tt)

pub returns : goal.returns
unfolding limits
returns c = (
  turns_guard (ltb limits.ids (length c.args.ids.now)) c.args.scratch (rw c.lists_short.ensures at c.check_index.ensures) c.in_ok-check_index.was (le-ltb 256 (length c.args.ids.now) c.if-ids.false)
      c.check_guard.ensures.0,
  c.check_guard.ensures.1,
)
