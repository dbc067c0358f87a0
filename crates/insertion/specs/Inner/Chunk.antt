-- A chunk: what the functions ask, and what they leave. Assumes nothing.
use Rattle.std.specs.Prelude.{ℕ, ◌*◌, ◌≤◌, ◌≡◌, List, length}
use Rattle.lists.specs.Lists.{foldl, range}
use Rattle.slots.specs.Store.{Arrays, Store}
use Rattle.row.specs.Row.{Together, index_of}
use Rattle.insertion.specs.declared.graph.Selection.{Selection}
use Rattle.insertion.specs.declared.layout.Layout.{Layout}
use Rattle.insertion.specs.Inner.Filling.{Inside}
use Rattle.insertion.specs.Inner.Outgoing.{own_at}
use Rattle.insertion.specs.Inner.Targets.{renewed_at}

-- outgoing rows of slots that no plan names, then the rows of those that one names
abbrev pub rows_written : List ℕ → Layout → ℕ → List ℕ → Store → Store
rows_written w at n slots b = foldl (renewed_at w at n) (foldl (own_at w at n slots) b (range 0 (length slots))) (range 0 b.capacity)

-- the index of arrays a has these rows, as that of a'
pub record RowsWritten (how : Selection) (a : Arrays) (slots w : List ℕ) (at : Layout) (n : ℕ) (a' : Arrays) : Type 0 where
  pub index : index_of how.alpha how.entry a' ≡ rows_written w at n slots (index_of how.alpha how.entry a)
  pub together : Together a'

-- a vector for each slot of a list
pub record Assigned (dim capacity : ℕ) (bytes slots : List ℕ) : Type 0 where
  pub bytes_in : length slots * dim ≤ length bytes
  pub below : length slots ≤ 65536
  pub inside : Inside capacity slots
