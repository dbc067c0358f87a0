-- The slots that a batch fills: what the functions ask, and what they leave. Assumes nothing.
use Rattle.std.specs.Prelude.{ℕ, ◌*◌, ◌≤◌, ◌<◌, ◌≡◌, List, map, length, get_or}
use Rattle.lists.specs.Lists.{range, part}
use Rattle.insert.specs.Insert.{Filling}

-- the i-th slot of a list and its vector, and k of them from one on
abbrev pub filling_at : ℕ → List ℕ → List ℕ → ℕ → Filling
filling_at dim bytes slots i = record { slot = get_or slots i 0; vector = part dim i bytes }

unfoldable pub fillings_from : ℕ → List ℕ → List ℕ → ℕ → ℕ → List Filling
fillings_from dim bytes slots from k = map (filling_at dim bytes slots) (range from k)

-- all of a list
abbrev pub chunk_of : ℕ → List ℕ → List ℕ → List Filling
chunk_of dim bytes slots = fillings_from dim bytes slots 0 (length slots)

-- each slot is below the capacity: a fact of lent words, so it is no field
abbrev pub Inside : ℕ → List ℕ → Type 0
Inside capacity slots = (i : ℕ) → i < length slots → get_or slots i 0 < capacity

-- a vector for each slot of a chunk, 256 at most
pub record Fillable (dim capacity : ℕ) (bytes slots : List ℕ) : Type 0 where
  pub long : length bytes ≡ length slots * dim
  pub few : length slots ≤ 256
  pub inside : Inside capacity slots
