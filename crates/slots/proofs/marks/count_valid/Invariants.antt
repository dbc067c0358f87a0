-- What is counted and the set marks of the blocks that are left are those of all marks.
use Rattle.std.proofs.Common.{◌≡◌, ◌+◌, ◌≤◌, length}
use Rattle.std.specs.List.{count_by}
use Rattle.slots.proofs.Count.{is_set}
use Rattle.slots.proofs.marks.count_valid.Given as goal

abbrev pub invariant-loop-block : goal.invariant-loop-block
invariant-loop-block l = (l.block-iterator.size ≡ 128) × (l.n + length l.block-iterator.rest.now ≤ length l.marks) × (l.n + count_by is_set l.block-iterator.rest.now ≡ count_by is_set l.marks)
