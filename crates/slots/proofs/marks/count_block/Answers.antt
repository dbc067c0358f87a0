use Rattle.std.proofs.Common.{sym, ap, ◌∙◌}
use lib.Seq.{take_all}
use Rattle.std.specs.List.{count_by}
use Rattle.slots.proofs.Count.{is_set, count_marks}
use Rattle.slots.proofs.marks.count_block.Goals as goal

pub returns : goal.returns
returns c = c.loop-mark.invariant.1 ∙ ap (count_by is_set) (take_all c.loop-mark.mark-index c.args.marks.now c.loop-mark-test.false) ∙ sym (count_marks c.args.marks.now)
