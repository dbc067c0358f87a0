-- A pruner as the code has it. Assumes nothing.
use Rattle.std.specs.Prelude.{ℕ, ◌≡◌}
use Rattle.vectors.specs.Lent.{measure_of}
use Rattle.slots.specs.Store.{Arrays}
use Rattle.slots.specs.Lent.{rows_mut_of, SameSlices}
use Rattle.row.specs.declared.pruner.Pruner.{Pruner}

-- the rows beside vectors and marks, as lists
abbrev pub held : {n : ℕ} → Pruner n → Arrays
held p = rows_mut_of (measure_of p.kept.now.space.weights) p.kept.now.space.dim p.kept.now.space.vectors.now p.rows.now p.marks.now

-- what a function leaves of it: all but the contents of the rows and the kept distances
pub record SamePruner {n : ℕ} (p p' : Pruner n) : Type 0 where
  pub slices : SameSlices p.rows.now p'.rows.now
  pub rows : p'.rows.ghost_name ≡ p.rows.ghost_name
  pub alpha : p'.alpha ≡ p.alpha
  pub marks : p'.marks ≡ p.marks
  pub kept : p'.kept.ghost_name ≡ p.kept.ghost_name
  pub space : p'.kept.now.space ≡ p.kept.now.space
