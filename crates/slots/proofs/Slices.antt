-- Rows that are written stay in the same slices: none written, and one after the other. Assumes nothing.
use mathlib.Core.Path.{refl, ◌∙◌}
use Rattle.slots.specs.declared.graph.RowsMut.{RowsMut}
use Rattle.slots.specs.Lent.{SameSlices}

pub same_none : (r : RowsMut) → SameSlices r r
same_none r = record { degree = refl; targets = refl; edges = refl; versions = refl }

pub same_then : {r r' r'' : RowsMut} → SameSlices r r' → SameSlices r' r'' → SameSlices r r''
same_then f g = record { degree = g.degree ∙ f.degree; targets = g.targets ∙ f.targets; edges = g.edges ∙ f.edges; versions = g.versions ∙ f.versions }
