-- The invariant: the first `i` records are written.
use mathlib.Core.Path.{◌≡◌}
use Rattle.lists.specs.Lists.{put_front}
use Rattle.deletion.specs.Batch.{records_of}
use Rattle.deletion.proofs.stats.write_stats.Given as goal

abbrev pub invariant-loop-i : goal.invariant-loop-i
invariant-loop-i l = l.record-items ≡ put_front (records_of l.words l.at l.i) l.initial.record-items
