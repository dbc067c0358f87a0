-- A table of distances that are kept: a pair of slots and their distance an entry. Assumes nothing.
use Rattle.std.specs.Prelude.{ℕ, ◌+◌, ◌*◌, ◌<◌, List, ◌≡◌, length, get_or}
use Rattle.vectors.specs.Space.{Space, slot_distance, Measured}
use Rattle.distances.specs.declared.kept.Entry.{Entry}

-- a pair of slots as one number
abbrev pub pair_of : ℕ → ℕ → ℕ
pair_of x y = x * 65536 + y

abbrev pub none : Entry
none = record { pair = 0; dist = 0 }

-- each entry has the distance of its pair. Entries of zeros are some: slot 0 is at distance 0 from itself.
pub record Keeps (p : Space) (entries : List Entry) : Type 0 where
  pub each : (i x y : ℕ) → i < length entries → x < 65536 → y < 65536 → (get_or entries i none).pair ≡ pair_of x y → Measured (slot_distance p x y) (get_or entries i none).dist
