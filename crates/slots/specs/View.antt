-- What the algorithms see of an index: neither versions nor blanks. Document 01, "Slots, versions, rows". Assumes nothing.
use Rattle.std.specs.Prelude.{◌≡◌, ℕ, ◌<◌, Bool, true, not, List}
use Rattle.lists.specs.Lists.{filter, range, sorted_set, All}
use Rattle.vectors.specs.Space.{Space}
use Rattle.slots.specs.Sizes.{Sizes}

pub record View : Type 0 where
  pub sizes : Sizes
  -- `medoid_id`
  pub entry : ℕ
  -- `is_valid`; false of a slot outside
  pub live : ℕ → Bool
  -- the vectors
  pub space : Space
  -- the targets, in row order, of the references whose edge version is their target's version, the target live or dead
  pub refs : ℕ → List ℕ

-- `live_neighbors`
abbrev pub live_neighbors : View → ℕ → List ℕ
live_neighbors v s = filter v.live (v.refs s)

-- rising
abbrev pub live_slots : View → List ℕ
live_slots v = filter v.live (range 0 v.sizes.capacity)

abbrev pub free_slots : View → List ℕ
free_slots v = filter (λ s. not (v.live s)) (range 0 v.sizes.capacity)

-- the slots that a delete empties: the live ones of the ids, rising, each once
unfoldable pub emptied : View → List ℕ → List ℕ
emptied v ids = sorted_set (filter v.live ids)

-- what holds of every index that calls have reached (`always_reached`): live slots are inside, and references lead to live slots
pub record Reached (v : View) : Type 0 where
  pub live_inside : (s : ℕ) → v.live s ≡ true → s < v.sizes.capacity
  pub live_targets : (s : ℕ) → All (λ t. v.live t ≡ true) (v.refs s)

-- where some slot is live, the entry is (document 02, E5; `entered`)
abbrev pub EntryLive : View → Type 0
EntryLive v = (s : ℕ) → v.live s ≡ true → v.live v.entry ≡ true

-- a view with other vectors and another entry
abbrev pub with_vectors : View → (ℕ → List ℕ) → ℕ → View
with_vectors v vector entry =
    record { sizes = v.sizes; entry = entry; live = v.live; space = record { measure = v.space.measure; vector = vector }; refs = v.refs }

-- two views that differ only in the vectors of dead slots, and, where no slot is live, in the entry
pub record Alike (v v' : View) : Type 0 where
  pub others : v' ≡ with_vectors v v'.space.vector v'.entry
  pub vectors : (s : ℕ) → v.live s ≡ true → v'.space.vector s ≡ v.space.vector s
  pub entry : (s : ℕ) → v.live s ≡ true → v'.entry ≡ v.entry
