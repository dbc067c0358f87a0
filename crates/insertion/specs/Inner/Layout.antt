-- The parts of the region `work` that a chunk uses. The heads of its chains lie in the region `marks`, once all its walks are done. Assumes nothing.
use Rattle.std.specs.Prelude.{ℕ, ◌+◌, ◌*◌, ◌≤◌, List, length}
use Rattle.slots.specs.Scratch.{marks_at, work_at}
use Rattle.insertion.specs.declared.layout.Layout.{Layout}
use Rattle.insertion.specs.Batch.{insert_words}

-- the parts follow one another, and n candidates of plans have room in each
pub record Spread (n : ℕ) (at : Layout) : Type 0 where
  pub plans_in : at.plans + 2 * n ≤ at.sources
  pub sources_in : at.sources + n ≤ at.nexts
  pub nexts_in : at.nexts + n ≤ at.ends
  pub ends_in : at.ends + 256 ≤ at.list

-- so have those of 256 plans, a row and all that can come in at it, and a selection
pub record Parts (capacity degree : ℕ) (at : Layout) : Type 0 where
  pub heads_in : marks_at + capacity ≤ at.plans
  pub spread : Spread (256 * degree) at
  pub list_in : at.list + 2 * (degree + 256 * degree) ≤ at.chosen
  pub chosen_in : at.chosen + 2 * degree ≤ work_at capacity + insert_words degree
  pub below : work_at capacity + insert_words degree ≤ 8388608

-- the words hold all of it: a fact of the words lent to one call, so it is no field
abbrev pub Enough : ℕ → ℕ → List ℕ → Type 0
Enough degree capacity w = work_at capacity + insert_words degree ≤ length w
