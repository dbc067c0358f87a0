-- The nine slices of an index as the code has them, as lists. Assumes nothing.
use Rattle.std.specs.Prelude.{◌≡◌}
use Rattle.slots.specs.Sizes.{slices}
use Rattle.slots.specs.Sizes as Sizes
use Rattle.index.specs.declared.slices.Slices.{Slices}
use Rattle.index.specs.declared.slices.NewSlices.{NewSlices}
use Rattle.index.specs.declared.slices.InsertSlices.{InsertSlices}
use Rattle.index.specs.declared.slices.DeleteSlices.{DeleteSlices}
use Rattle.index.specs.declared.slices.EnableSlices.{EnableSlices}

abbrev pub slices_of : Slices → Sizes.Slices
slices_of s = slices s.vectors.now s.targets.now s.edges.now s.versions.now s.marks.now s.pool.now s.numbers.now s.summary.now s.weights.now

abbrev pub new_slices_of : NewSlices → Sizes.Slices
new_slices_of s = slices s.vectors.now s.targets.now s.edges.now s.versions.now s.marks.now s.pool.now s.numbers.now s.summary.now s.weights.now

abbrev pub insert_slices_of : InsertSlices → Sizes.Slices
insert_slices_of s = slices s.vectors.now s.targets.now s.edges.now s.versions.now s.marks.now s.pool.now s.numbers.now s.summary.now s.weights.now

abbrev pub delete_slices_of : DeleteSlices → Sizes.Slices
delete_slices_of s = slices s.vectors.now s.targets.now s.edges.now s.versions.now s.marks.now s.pool.now s.numbers.now s.summary.now s.weights.now

abbrev pub enable_slices_of : EnableSlices → Sizes.Slices
enable_slices_of s = slices s.vectors.now s.targets.now s.edges.now s.versions.now s.marks.now s.pool.now s.numbers.now s.summary.now s.weights.now

-- what a call leaves of slices that it writes: the same ones
pub record SameNewSlices (s s' : NewSlices) : Type 0 where
  pub vectors : s'.vectors.ghost_name ≡ s.vectors.ghost_name
  pub targets : s'.targets.ghost_name ≡ s.targets.ghost_name
  pub edges : s'.edges.ghost_name ≡ s.edges.ghost_name
  pub versions : s'.versions.ghost_name ≡ s.versions.ghost_name
  pub marks : s'.marks.ghost_name ≡ s.marks.ghost_name
  pub pool : s'.pool.ghost_name ≡ s.pool.ghost_name
  pub numbers : s'.numbers.ghost_name ≡ s.numbers.ghost_name
  pub summary : s'.summary.ghost_name ≡ s.summary.ghost_name
  pub weights : s'.weights.ghost_name ≡ s.weights.ghost_name

pub record SameInsertSlices (s s' : InsertSlices) : Type 0 where
  pub vectors : s'.vectors.ghost_name ≡ s.vectors.ghost_name
  pub targets : s'.targets.ghost_name ≡ s.targets.ghost_name
  pub edges : s'.edges.ghost_name ≡ s.edges.ghost_name
  pub versions : s'.versions ≡ s.versions
  pub marks : s'.marks.ghost_name ≡ s.marks.ghost_name
  pub pool : s'.pool ≡ s.pool
  pub numbers : s'.numbers.ghost_name ≡ s.numbers.ghost_name
  pub summary : s'.summary.ghost_name ≡ s.summary.ghost_name
  pub weights : s'.weights ≡ s.weights

pub record SameDeleteSlices (s s' : DeleteSlices) : Type 0 where
  pub vectors : s'.vectors ≡ s.vectors
  pub targets : s'.targets.ghost_name ≡ s.targets.ghost_name
  pub edges : s'.edges.ghost_name ≡ s.edges.ghost_name
  pub versions : s'.versions.ghost_name ≡ s.versions.ghost_name
  pub marks : s'.marks.ghost_name ≡ s.marks.ghost_name
  pub pool : s'.pool ≡ s.pool
  pub numbers : s'.numbers.ghost_name ≡ s.numbers.ghost_name
  pub summary : s'.summary.ghost_name ≡ s.summary.ghost_name
  pub weights : s'.weights ≡ s.weights

pub record SameEnableSlices (s s' : EnableSlices) : Type 0 where
  pub vectors : s'.vectors ≡ s.vectors
  pub targets : s'.targets ≡ s.targets
  pub edges : s'.edges ≡ s.edges
  pub versions : s'.versions ≡ s.versions
  pub marks : s'.marks ≡ s.marks
  pub pool : s'.pool.ghost_name ≡ s.pool.ghost_name
  pub numbers : s'.numbers ≡ s.numbers
  pub summary : s'.summary ≡ s.summary
  pub weights : s'.weights ≡ s.weights
