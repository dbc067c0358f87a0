-- The graph that a delete writes, as lists. Assumes nothing.
use Rattle.std.specs.Prelude.{◌≡◌}
use Rattle.vectors.specs.Lent.{measure_of}
use Rattle.slots.specs.Store.{Arrays, arrays}
use Rattle.deletion.specs.declared.graph.GraphMut.{GraphMut}

abbrev pub graph_mut_of : GraphMut → Arrays
graph_mut_of g = arrays (measure_of g.space.weights) g.space.dim g.degree g.space.vectors.now g.targets.now g.edges.now g.versions.now g.marks.now

-- what a function leaves of it: the same slices
pub record SameGraph (g g' : GraphMut) : Type 0 where
  pub space : g'.space ≡ g.space
  pub degree : g'.degree ≡ g.degree
  pub targets : g'.targets.ghost_name ≡ g.targets.ghost_name
  pub edges : g'.edges.ghost_name ≡ g.edges.ghost_name
  pub versions : g'.versions.ghost_name ≡ g.versions.ghost_name
  pub marks : g'.marks.ghost_name ≡ g.marks.ghost_name
