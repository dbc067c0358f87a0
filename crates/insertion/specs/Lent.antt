-- The graph that an insert writes, as lists. Assumes nothing.
use Rattle.std.specs.Prelude.{◌≡◌}
use Rattle.vectors.specs.Lent.{measure_of}
use Rattle.slots.specs.Store.{Arrays, arrays}
use Rattle.insertion.specs.declared.graph.GraphMut.{GraphMut}

abbrev pub graph_mut_of : GraphMut → Arrays
graph_mut_of g = arrays (measure_of g.weights) g.dim g.degree g.vectors.now g.targets.now g.edges.now g.versions.now g.marks.now

-- what a function leaves of it: the same slices
pub record SameGraph (g g' : GraphMut) : Type 0 where
  pub dim : g'.dim ≡ g.dim
  pub weights : g'.weights ≡ g.weights
  pub degree : g'.degree ≡ g.degree
  pub vectors : g'.vectors.ghost_name ≡ g.vectors.ghost_name
  pub targets : g'.targets.ghost_name ≡ g.targets.ghost_name
  pub edges : g'.edges.ghost_name ≡ g.edges.ghost_name
  pub versions : g'.versions ≡ g.versions
  pub marks : g'.marks.ghost_name ≡ g.marks.ghost_name
