-- What a line has of a delete.
use denote.Ref.{Bor}
use Rattle.std.specs.Prelude.{List, Option, ℕ, ◌*◌, ◌≤◌, length, take, drop}
use Rattle.deletion.specs.Batch.{stats_at}
use Rattle.updating.specs.declared.names.Naming.{Naming}
use Rattle.text.specs.Inner.Text.{Reads, ReadsAll, Asks}

-- the number that says what the names of a delete are
abbrev pub number_of : Naming → ℕ
number_of Naming.Slots = 0
number_of Naming.Numbers = 1

-- what its names are, and then its repair beam and its repair degree, were read next of a line
pub record Asked (old new : Option (Bor (List ℕ))) (naming : Naming) (beam degree : ℕ) : Type 0 where
  pub named : Option (Bor (List ℕ))
  pub names : Reads old named (number_of naming)
  pub given : Option (Bor (List ℕ))
  pub with_beam : Asks named given beam
  pub with_degree : Asks given new degree

-- n and the stats of n slots, four words each, were read next of a line, and the stats are those that the scratch holds
pub record Emptied (old new : Option (Bor (List ℕ))) (n capacity : ℕ) (scratch : List ℕ) : Type 0 where
  pub counted : Option (Bor (List ℕ))
  pub count : Reads old counted n
  pub room : n * 4 ≤ length (drop (stats_at capacity) scratch)
  pub stats : ReadsAll counted new (take (n * 4) (drop (stats_at capacity) scratch))
