-- Where a delete keeps its words, in the region `work` of the scratch. Assumes nothing.
use Rattle.std.specs.Prelude.{ℕ, ◌+◌}
use Rattle.slots.specs.Scratch.{work_at}
use Rattle.deletion.specs.declared.layout.Layout.{Layout}
use Rattle.deletion.specs.Batch.{stats_at}

-- of n slots that are emptied
abbrev pub layout_of : ℕ → ℕ → Layout
layout_of capacity n =
    record {
      from = work_at capacity;
      count = n;
      stats = stats_at capacity;
      plans = stats_at capacity + 1024;
      base = stats_at capacity + 1024 + 163840;
    }
