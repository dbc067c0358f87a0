-- What the functions on lent slices read: the reference at a place of a row, a row from a place on, and the vector of a slot. Assumes nothing.
use Rattle.std.specs.Prelude.{◌≡◌, ℕ, ◌+◌, ◌*◌, ◌≤◌, Bool, true, false, ◌&&◌, Option, Some, None, List, [], length, drop, ◌==◌, slice_index, slice_index_or}
use Rattle.std.specs.Borrow.{Bor}
use Rattle.lists.specs.Lists.{filter, part}
use Rattle.vectors.specs.Vector.{VectorAt}
use Rattle.slots.specs.Store.{Arrays, is_valid, current}

-- slices of rows, versions and marks that belong together; a blank target is outside. A `Graph` carries this, so that those ask for it who make one.
pub record RowShape (degree : ℕ) (targets edges versions marks : List ℕ) : Type 0 where
  pub targets_long : length targets ≡ length marks * degree
  pub edges_long : length edges ≡ length marks * degree
  pub versions_long : length versions ≡ length marks
  pub few : length marks ≤ 65536

-- slot s has a row, inside both slices: all that reading or writing one row asks
abbrev pub HasRow : ℕ → List ℕ → List ℕ → ℕ → Type 0
HasRow degree targets edges s = (s * degree + degree ≤ length targets) × (s * degree + degree ≤ length edges)

-- ---- what is read

abbrev pub ref_of : Bool → ℕ → Option ℕ
ref_of true t = Some t
ref_of false t = None

-- `live_at`: the target at a place of a row, if its mark is set and the edge version is its version
unfoldable pub ref_at : Arrays → ℕ → ℕ → Option ℕ
ref_at a s place =
    let t = slice_index_or a.targets (s * a.degree + place) 0 in
    ref_of (is_valid a.marks t && slice_index a.edges (s * a.degree + place) == slice_index a.versions t) t

-- `refs_of` from a place on
unfoldable pub refs_from : Arrays → ℕ → ℕ → List ℕ
refs_from a s place = current a.versions (drop place (part a.degree s a.targets)) (drop place (part a.degree s a.edges))

-- the live ones of them
unfoldable pub live_from : Arrays → ℕ → ℕ → List ℕ
live_from a s place = filter (is_valid a.marks) (refs_from a s place)

-- ---- a vector

-- what `live_vector` gives: of a live slot its vector, at its place; of one that is dead or outside the empty part
pub record LiveVector (dim : ℕ) (vectors : Bor (List ℕ)) (marks : List ℕ) (s : ℕ) (r : Bor (List ℕ)) : Type 0 where
  pub live : is_valid marks s ≡ true → VectorAt dim s vectors r
  pub dead : is_valid marks s ≡ false → r.now ≡ []
