-- The vectors of all slots, and the two distances that the algorithms read. Document 01, "Grey values and distance". Assumes nothing.
use Rattle.std.specs.Prelude.{ℕ, ◌≤◌, List, ◌≡◌}
use Rattle.lists.specs.Lists.{part}

-- what the distance of two vectors is: the `D` given to the Rust
abbrev pub Measure : Type 0
Measure = List ℕ → List ℕ → ℕ

pub record Space : Type 0 where
  pub measure : Measure
  -- by slot: the stored bytes, a dead slot's too; empty of a slot outside
  pub vector : ℕ → List ℕ

-- the distance of two slots, and of a query and a slot: no algorithm reads distances otherwise
unfoldable pub slot_distance : Space → ℕ → ℕ → ℕ
slot_distance p a b = p.measure (p.vector a) (p.vector b)

unfoldable pub query_distance : Space → List ℕ → ℕ → ℕ
query_distance p query s = p.measure query (p.vector s)

-- the vectors that lent bytes hold, dim bytes for each slot
unfoldable pub space : Measure → ℕ → List ℕ → Space
space measure dim vectors = record { measure = measure; vector = λ s. part dim s vectors }

-- what a function promises that measures the distance d: it, which an f32 holds exactly
pub record Measured (d r : ℕ) : Type 0 where
  pub equals : r ≡ d
  pub bound : r ≤ 16646400
