-- Document 02, E2: pruning selects nothing outside the list that it is given (its pool), slot and distance, on any index and for any vector. So no call needs a
-- refusal for that. Assumes nothing.
use Rattle.std.specs.Prelude.{ℕ, max, cond, List, [], ◌∷◌, ◌++◌, ◌≡◌}
use Rattle.lists.specs.Lists.{All, In, elem}
use Rattle.vectors.specs.Space.{slot_distance}
use Rattle.candidates.specs.Candidates.{Candidate, scored, ids}
use Rattle.slots.specs.View.{View, live_neighbors}
use Rattle.walk.specs.Walk.{search_pool}
use Rattle.prune.specs.Prune.{prune}
use Rattle.insert.specs.Insert.{Filling, Plan, plan, incoming, target_row}
use Rattle.repair.specs.Repair.{insert_and_prune}

abbrev pub From : List Candidate → List Candidate → Type 0
From pool selected = All (λ c. In c pool) selected

-- a row of the slots of candidates of a pool
abbrev pub RowFrom : List Candidate → List ℕ → Type 0
RowFrom pool row = (selected : List Candidate) × (row ≡ ids selected) × From pool selected

pub record FromPool (v : View) : Type 0 where
  -- any list
  pub prune_from_pool : (source : ℕ) (pool : List Candidate) → From pool (prune v source pool)
  -- the list of a new slot: what the walk to its vector gives
  pub plan_from_pool : (beam : ℕ) (f : Filling) → From (search_pool v f.vector (max beam v.sizes.degree)) (plan v beam f).outgoing
  -- that of a target row: its live references, then those that come in
  pub target_row_from_pool : (plans : List Plan) (t : ℕ)
      → RowFrom (scored (slot_distance v.space t) (live_neighbors v t) ++ incoming plans t) (target_row v plans t).targets
  -- that of a repaired row: the row, with the link's target
  pub insert_and_prune_from_pool : (source : ℕ) (row : List ℕ) (t : ℕ)
      → RowFrom (scored (slot_distance v.space source) (cond (elem t row) row (row ++ (t ∷ [])))) (insert_and_prune v source row t)
