-- The marks so far are counted.
use Rattle.std.proofs.Common.{◌≡◌, ◌≤◌, take}
use Rattle.std.specs.List.{count_by}
use Rattle.slots.proofs.Count.{is_set}
use Rattle.slots.proofs.marks.count_block.Given as goal

abbrev pub invariant-loop-mark : goal.invariant-loop-mark
invariant-loop-mark l = (l.n ≤ l.mark-index) × (l.n ≡ count_by is_set (take l.mark-index l.marks))
