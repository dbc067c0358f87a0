-- What insert and delete may do to an index. The stored index and the plain index are the two instances; both leave a slot outside alone.
-- Assumes nothing.
use Rattle.std.specs.Prelude.{ℕ, List}
use Rattle.lists.specs.Lists.{foldl}
use Rattle.slots.specs.View.{View}

pub record Ops (B : Type 0) : Type 0 where
  pub view : B → View
  -- `write_vector`, `fill_neighbors` and `set_valid(id, true)`: a vector into a free slot, live, with an empty row
  pub fill : B → ℕ → List ℕ → B
  -- `write_neighbors`
  pub write : B → ℕ → List ℕ → B
  -- `set_valid(id, false)`
  pub kill : B → ℕ → B
  -- sets `medoid_id`
  pub enter : B → ℕ → B
  -- `finish_delete_plan`: the last act of a delete on a deleted slot
  pub finish : B → ℕ → B

-- a row to be written: a slot and its new neighbours
pub record Row : Type 0 where
  pub source : ℕ
  pub targets : List ℕ

abbrev pub write_rows : {B : Type 0} → Ops B → B → List Row → B
write_rows O b rows = foldl (λ b row. O.write b row.source row.targets) b rows
