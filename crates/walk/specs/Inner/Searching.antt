-- A search and its list as the code has them: that the walk can go on, and where it has come. Assumes nothing.
use Rattle.std.specs.Prelude.{◌≡◌, length}
use Rattle.walk.specs.Walk.{State}
use Rattle.walk.specs.Inner.Scratch.{Walkable, Stepped}
use Rattle.walk.specs.declared.Search.{Search}
use Rattle.walk.specs.declared.words.List.{List}

-- a fact of the two, of which the list changes at each step
abbrev pub Goes : Search → List → Type 0
Goes q l = Walkable (length q.graph.rows.marks.now) l.beam l.words.now l.count l.next

-- the same words, of the same beam
pub record SameWords (l l' : List) : Type 0 where
  pub words : l'.words.ghost_name ≡ l.words.ghost_name
  pub beam : l'.beam ≡ l.beam

abbrev pub Steps : Search → List → State → List → Type 0
Steps q l to l' = Stepped (length q.graph.rows.marks.now) l.beam l.words.now to l'.words.now l'.count l'.next × SameWords l l'
