-- The operations of `Ops` on lent slices: what they ask, and what they leave. Assumes nothing.
use Rattle.std.specs.Prelude.{◌≡◌, ℕ, ◌+◌, ◌*◌, ◌<◌, ◌≤◌, List, length}
use Rattle.vectors.specs.Space.{Measure}
use Rattle.slots.specs.Store.{Arrays, arrays, Store, with_arrays, store_ops}

-- slot s has its place in each slice, and the vector is as long as one
pub record SlotIn (dim degree : ℕ) (vectors targets edges marks : List ℕ) (s : ℕ) (vector : List ℕ) : Type 0 where
  pub long : length vector ≡ dim
  pub inside : s < length marks
  pub vector_in : s * dim + dim ≤ length vectors
  pub targets_in : s * degree + degree ≤ length targets
  pub edges_in : s * degree + degree ≤ length edges

-- the operation f at slot s makes a' of the arrays a, in every index that has them and the slot
pub record Done (f : Store → Store) (s : ℕ) (a a' : Arrays) : Type 0 where
  pub does : (b : Store) → b.arrays ≡ a → s < b.capacity → with_arrays b a' ≡ f b

-- `fill`, whatever the measure
pub record Filled (dim degree : ℕ) (vectors targets edges versions marks : List ℕ) (s : ℕ) (vector vectors' targets' edges' marks' : List ℕ) : Type 0 where
  pub does : (measure : Measure)
      → Done (λ b. store_ops.fill b s vector) s (arrays measure dim degree vectors targets edges versions marks) (arrays measure dim degree vectors' targets' edges' versions marks')

-- `write`, whatever the vectors and marks, and their measure
pub record Wrote (degree : ℕ) (targets edges versions : List ℕ) (s : ℕ) (ids targets' edges' : List ℕ) : Type 0 where
  pub does : (measure : Measure) (dim : ℕ) (vectors marks : List ℕ)
      → Done (λ b. store_ops.write b s ids) s (arrays measure dim degree vectors targets edges versions marks) (arrays measure dim degree vectors targets' edges' versions marks)

-- `kill`, whatever else the index has
pub record Killed (marks : List ℕ) (s : ℕ) (marks' : List ℕ) : Type 0 where
  pub does : (measure : Measure) (dim degree : ℕ) (vectors targets edges versions : List ℕ)
      → Done (λ b. store_ops.kill b s) s (arrays measure dim degree vectors targets edges versions marks) (arrays measure dim degree vectors targets edges versions marks')

-- `finish`, whatever the vectors and marks, and their measure
pub record Finished (degree : ℕ) (targets edges versions : List ℕ) (s : ℕ) (targets' edges' versions' : List ℕ) : Type 0 where
  pub does : (measure : Measure) (dim : ℕ) (vectors marks : List ℕ)
      → Done (λ b. store_ops.finish b s) s (arrays measure dim degree vectors targets edges versions marks) (arrays measure dim degree vectors targets' edges' versions' marks)
