-- What is left of the rows that a pruner writes. Assumes nothing.
use Rattle.std.specs.Prelude.{ℕ, ◌<◌, ◌≡◌, List, length, get_or}
use Rattle.slots.specs.Store.{Store}
use Rattle.row.specs.Row.{index_of}
use Rattle.row.specs.Lent.{held, SamePruner}
use Rattle.row.specs.declared.pruner.Pruner.{Pruner}

-- the index that it holds, with an entry
abbrev pub index_by : ℕ → Pruner 0 → Store
index_by entry p = index_of p.alpha entry (held p)

-- its index is b now
pub record Written (entry : ℕ) (p : Pruner 0) (b : Store) (p' : Pruner 0) : Type 0 where
  pub index : index_by entry p' ≡ b
  pub same : SamePruner p p'

-- the words below `end` are the same
pub record Below (end : ℕ) (w w' : List ℕ) : Type 0 where
  pub size : length w' ≡ length w
  pub same : (j : ℕ) → j < end → get_or w' j 0 ≡ get_or w j 0
