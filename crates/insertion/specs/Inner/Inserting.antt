-- What an inserter holds, and what its functions leave. Assumes nothing.
use Rattle.std.specs.Prelude.{◌≡◌}
use Rattle.slots.specs.Store.{Arrays, Store}
use Rattle.row.specs.Row.{index_of}
use Rattle.insertion.specs.declared.inserter.Inserter.{Inserter}
use Rattle.insertion.specs.Lent.{graph_mut_of, SameGraph}

abbrev pub held : Inserter → Arrays
held i = graph_mut_of i.graph.now

-- its index
abbrev pub index_in : Inserter → Store
index_in i = index_of i.how.alpha i.how.entry (held i)

-- the same slices, and the same selection
pub record SameInserter (i i' : Inserter) : Type 0 where
  pub graph : i'.graph.ghost_name ≡ i.graph.ghost_name
  pub slices : SameGraph i.graph.now i'.graph.now
  pub how : i'.how ≡ i.how

-- its index is b now
pub record Inserted (i : Inserter) (b : Store) (i' : Inserter) : Type 0 where
  pub index : index_in i' ≡ b
  pub same : SameInserter i i'
