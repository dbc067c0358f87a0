-- The graph as the code has it, in lent slices. Assumes nothing.
use Rattle.std.specs.Prelude.{ℕ, ◌≡◌, List}
use Rattle.vectors.specs.Space.{Measure}
use Rattle.vectors.specs.Lent.{measure_of}
use Rattle.slots.specs.Store.{Arrays, arrays}
use Rattle.slots.specs.declared.graph.Rows.{Rows}
use Rattle.slots.specs.declared.graph.Graph.{Graph}
use Rattle.slots.specs.declared.graph.RowsMut.{RowsMut}

-- as lists: a graph; rows beside vectors; rows that are written beside vectors and marks
abbrev pub graph_of : Graph → Arrays
graph_of g = arrays (measure_of g.space.weights) g.space.dim g.rows.degree g.space.vectors.now g.rows.targets.now g.rows.edges.now g.rows.versions.now g.rows.marks.now

abbrev pub rows_of : Measure → ℕ → List ℕ → Rows → Arrays
rows_of measure dim vectors r = arrays measure dim r.degree vectors r.targets.now r.edges.now r.versions.now r.marks.now

abbrev pub rows_mut_of : Measure → ℕ → List ℕ → RowsMut → List ℕ → Arrays
rows_mut_of measure dim vectors r marks = arrays measure dim r.degree vectors r.targets.now r.edges.now r.versions.now marks

-- what a function leaves of rows that it writes: the same slices, and their versions
pub record SameSlices (r r' : RowsMut) : Type 0 where
  pub degree : r'.degree ≡ r.degree
  pub targets : r'.targets.ghost_name ≡ r.targets.ghost_name
  pub edges : r'.edges.ghost_name ≡ r.edges.ghost_name
  pub versions : r'.versions ≡ r.versions
