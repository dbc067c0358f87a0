-- What making asks of the slices that it is lent, and what it leaves in them. Assumes nothing.
use Rattle.std.specs.Prelude.{◌≡◌, ℕ, ◌*◌, ◌≤◌, List, length, replicate, Float}
use Rattle.vectors.specs.Space.{Measure}
use Rattle.slots.specs.Sizes.{limits}
use Rattle.slots.specs.Store.{new_arrays, arrays}

-- the given vectors and rows belong to the first slots, and each slice has its exact length
pub record Room (dim capacity degree given : ℕ) (bytes rows vectors targets edges versions marks pool : List ℕ) : Type 0 where
  pub room : given ≤ capacity
  pub bytes_long : length bytes ≡ given * dim
  pub rows_long : length rows ≡ given * degree
  pub vectors_long : length vectors ≡ capacity * dim
  pub targets_long : length targets ≡ capacity * degree
  pub edges_long : length edges ≡ capacity * degree
  pub versions_long : length versions ≡ capacity
  pub marks_long : length marks ≡ capacity
  pub pool_long : length pool ≡ limits.pool

-- the slices hold a new index, whatever its measure and its alpha
pub record New (dim capacity degree given : ℕ) (bytes rows vectors targets edges versions marks pool : List ℕ) : Type 0 where
  pub does : (measure : Measure) (alpha : Float)
      → arrays measure dim degree vectors targets edges versions marks
      ≡ new_arrays (record { dim = dim; capacity = capacity; degree = degree; alpha = alpha }) measure given bytes rows
  pub pool_empty : pool ≡ replicate limits.pool 0
