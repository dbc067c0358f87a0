-- The row of a slot, worked out in lent words: what the functions ask, and what they leave. Assumes nothing.
use Rattle.std.specs.Prelude.{ℕ, ◌+◌, ◌*◌, ◌≤◌, List, ◌≡◌, Float, length}
use Rattle.vectors.specs.Space.{slot_distance}
use Rattle.vectors.specs.Vector.{Bytes}
use Rattle.slots.specs.View.{View, live_neighbors}
use Rattle.slots.specs.Store.{Arrays, Store, store_view, store_ops}
use Rattle.slots.specs.Inner.Rows.{RowShape}
use Rattle.candidates.specs.Candidates.{Candidate, scored, ids}
use Rattle.candidates.specs.Inner.Words.{cands, Small}
use Rattle.prune.specs.Prune.{prune}

-- slices that belong together, within the limits. `Pruner` and `Inserter` carry it; a delete's graph does not: each of its acts that writes one of the slices would
-- show it again, and only the last two ask it.
pub record Together (a : Arrays) : Type 0 where
  pub bytes : Bytes a.dim (length a.marks) a.vectors
  pub rows : RowShape a.degree a.targets a.edges a.versions a.marks
  pub degree_most : a.degree ≤ 64

-- the index that they hold: as many slots as marks
abbrev pub index_of : Float → ℕ → Arrays → Store
index_of alpha entry a = record { arrays = a; capacity = length a.marks; alpha = alpha; entry = entry }

-- the live row of slot s, each target with its distance to s
abbrev pub live_scored : View → ℕ → List Candidate
live_scored v s = scored (slot_distance v.space s) (live_neighbors v s)

-- ---- what is asked and left
-- the live row of slot s lies at the front of the words w, r candidates
pub record LiveScored (a : Arrays) (s r : ℕ) (w : List ℕ) : Type 0 where
  pub list : (alpha : Float) (entry : ℕ) → cands w 0 r ≡ live_scored (store_view (index_of alpha entry a)) s
  pub few : r ≤ a.degree
  pub small : Small (cands w 0 r)

-- slot s has a row
pub record Writable (degree : ℕ) (targets edges : List ℕ) (s : ℕ) : Type 0 where
  pub targets_in : s * degree + degree ≤ length targets
  pub edges_in : s * degree + degree ≤ length edges

-- a selection from the candidates cs is the row of slot s
pub record WrotePruned (alpha : Float) (a : Arrays) (s : ℕ) (cs : List Candidate) (a' : Arrays) : Type 0 where
  pub row : (entry : ℕ) → index_of alpha entry a' ≡ store_ops.write (index_of alpha entry a) s (ids (prune (store_view (index_of alpha entry a)) s cs))
