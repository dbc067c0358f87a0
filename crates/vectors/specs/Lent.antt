-- The vectors as the code has them: `dim`, the weights and the lent bytes. Assumes nothing.
use Rattle.std.specs.Prelude.{ℕ, ◌+◌, ◌*◌, ◌≤◌, length}
use Rattle.vectors.specs.Distance.{distance}
use Rattle.vectors.specs.Space.{Measure, Space, space}
use Rattle.vectors.specs.declared.weights.Weights.{Weights}
use Rattle.vectors.specs.declared.Space as lent

-- the distance that weights make
abbrev pub measure_of : Weights → Measure
measure_of w = distance w.each.now

-- what the bytes hold
abbrev pub space_of : lent.Space → Space
space_of p = space (measure_of p.weights) p.dim p.vectors.now

-- the bytes hold the vector of slot s: a fact of a space and of one slot, so no field of either, and asked where a slot is given
abbrev pub HasVector : lent.Space → ℕ → Type 0
HasVector p s = s * p.dim + p.dim ≤ length p.vectors.now
