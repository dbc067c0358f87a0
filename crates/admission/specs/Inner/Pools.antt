-- The residual entry and the landmark pool on lent slices: what their functions ask and leave. Assumes nothing.
use Rattle.std.specs.Prelude.{ℕ, ◌+◌, ◌≤◌, ◌<◌, true, List, ◌≡◌, length, Option, Some}
use Rattle.vectors.specs.Vector.{Bytes}
use Rattle.vectors.specs.Space.{Measure}
use Rattle.slots.specs.Scratch.{work_at}
use Rattle.slots.specs.View.{emptied}
use Rattle.slots.specs.Store.{Store, store_view}
use Rattle.landmarks.specs.Inner.Samples.{remains, sample_words}
use Rattle.landmarks.specs.Inner.Choices.{Fronted}
use Rattle.guard.specs.Guard.{config, residual_entry, landmark_pool}
use Rattle.guard.specs.Lent.{entry_of}

-- the guard's share of the scratch: a walk's list and marks, and the sample in the work region. The size answer has it (`share_enough`).
abbrev pub guard_words : ℕ → ℕ
guard_words capacity = work_at capacity + sample_words capacity

-- `residual_entry` for any ids; a slot that is found stays
pub record Entered (marks ids : List ℕ) (entry : ℕ) (r : Option ℕ) : Type 0 where
  pub does : (b : Store) → b.arrays.marks ≡ marks → b.capacity ≡ length marks → b.entry ≡ entry
      → r ≡ entry_of (residual_entry (store_view b) (emptied (store_view b) ids))
  pub found : (s : ℕ) → r ≡ Some s → remains marks ids s ≡ true

-- settings within their limits, none of them 0
pub record Poolable (measure : Measure) (dim : ℕ) (vectors marks : List ℕ) (entry count multiplier sample : ℕ) (pool w : List ℕ) : Type 0 where
  pub bytes : Bytes dim (length marks) vectors
  pub few : length marks ≤ 65536
  pub entry_inside : entry < length marks
  pub count_most : count ≤ 64
  pub multiplier_some : 0 < multiplier
  pub multiplier_most : multiplier ≤ 16
  pub sample_some : 0 < sample
  pub pool_long : 1024 ≤ length pool
  pub room : guard_words (length marks) ≤ length w

-- `landmark_pool` stands at the front of the pool's slice, whatever the beam; r is its length
pub record Pooled (measure : Measure) (dim : ℕ) (vectors marks : List ℕ) (entry count multiplier sample : ℕ) (pool pool' : List ℕ) (r : ℕ) : Type 0 where
  pub does : (b : Store) (beam : ℕ) → b.arrays.measure ≡ measure → b.arrays.dim ≡ dim → b.arrays.vectors ≡ vectors → b.arrays.marks ≡ marks → b.capacity ≡ length marks
      → Fronted (landmark_pool (store_view b) (config count multiplier sample beam) entry) pool pool' r
  pub few : r ≤ 1024
