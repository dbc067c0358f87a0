-- Trial walks over the lent slices, and what the functions that make them ask and leave. Assumes nothing.
use Rattle.std.specs.Prelude.{ℕ, ◌≤◌, ◌<◌, Bool, not, List, ◌≡◌, length}
use Rattle.lists.specs.Lists.{filter, elem, part, put_front}
use Rattle.vectors.specs.Space.{query_distance, space}
use Rattle.candidates.specs.Candidates.{ids}
use Rattle.slots.specs.Scratch.{work_at}
use Rattle.slots.specs.Store.{Arrays}
use Rattle.walk.specs.Walk.{graph_search}
use Rattle.walk.specs.Inner.Scratch.{near_but}

-- `reaches`: a walk that leaves some slots out finds the landmark
unfoldable pub meets : Arrays → List ℕ → ℕ → ℕ → ℕ → Bool
meets a out beam entry landmark =
    let query = part a.dim landmark a.vectors in
    elem landmark (ids (graph_search (length a.marks) entry beam (query_distance (space a.measure a.dim a.vectors) query) (near_but out a)))

-- of some landmarks, those that are met before and not after
abbrev pub lost_of : (ℕ → Bool) → (ℕ → Bool) → List ℕ → List ℕ
lost_of before after ls = filter (λ l. not (after l)) (filter before ls)

-- what a trial walk asks
pub record Walks (a : Arrays) (entry beam : ℕ) (w : List ℕ) : Type 0 where
  pub entry_inside : entry < length a.marks
  pub beam_most : beam ≤ 1024
  pub room : work_at (length a.marks) ≤ length w

-- of some landmarks how many are met before and how many after, and those lost at the front of a list
pub record Tried (before after : ℕ → Bool) (landmarks lost lost' : List ℕ) (baseline residual count : ℕ) : Type 0 where
  pub baseline_count : baseline ≡ length (filter before landmarks)
  pub residual_count : residual ≡ length (filter after landmarks)
  pub lost_count : count ≡ length (lost_of before after landmarks)
  pub list : lost' ≡ put_front (lost_of before after landmarks) lost
