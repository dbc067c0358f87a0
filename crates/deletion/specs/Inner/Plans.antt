-- The plans of a delete in lent words: what the functions ask, and what they leave. From word `from` of a layout on lie the deleted slots as candidates, from
-- `stats` on four counts for each, and from `plans` on 640 words for the candidates of each plan. Assumes nothing.
use Rattle.std.specs.Prelude.{ℕ, ◌+◌, ◌*◌, ◌≤◌, ◌<◌, Bool, false, List, ◌++◌, ◌≡◌, Float, length, get_or, set}
use Rattle.lists.specs.Lists.{All, filter, elem, sorted_set}
use Rattle.candidates.specs.Candidates.{Candidate, ids}
use Rattle.candidates.specs.Inner.Words.{cand, cands}
use Rattle.slots.specs.Scratch.{work_at}
use Rattle.slots.specs.View.{View, live_neighbors}
use Rattle.slots.specs.Store.{Arrays, is_valid, refs_of, store_view}
use Rattle.row.specs.Row.{index_of}
use Rattle.walk.specs.Walk.{search_pool}
use Rattle.links.specs.Inner.Planning.{Plan, Attempted, count_at}
use Rattle.deletion.specs.declared.layout.Layout.{Layout}
use Rattle.deletion.specs.declared.plans.Repair.{Repair}
use Rattle.deletion.specs.Inner.Naming.{Inside}

-- ---- the rows of the deleted slots
pub record Table (degree : ℕ) (w : List ℕ) (at : Layout) : Type 0 where
  pub first : at.from + 2 * at.count ≤ at.stats
  pub second : at.stats + 4 * at.count ≤ at.plans
  pub third : at.plans + 640 * at.count ≤ length w
  pub few : at.count ≤ 256
  pub low : degree ≤ 64

-- the number of live targets of slot j
abbrev pub row_count : List ℕ → Layout → ℕ → ℕ
row_count w at j = get_or w (at.stats + 4 * j) 0

-- the live row of slot s lies at plan j, and its length is the first count
pub record RowOf (a : Arrays) (s : ℕ) (w : List ℕ) (at : Layout) (j : ℕ) : Type 0 where
  pub list : (alpha : Float) (entry : ℕ) → ids (cands w (at.plans + 640 * j) (row_count w at j)) ≡ live_neighbors (store_view (index_of alpha entry a)) s
  pub few : row_count w at j ≤ a.degree

pub record RowsTaken (a : Arrays) (w : List ℕ) (at : Layout) (w' : List ℕ) : Type 0 where
  pub each : (j : ℕ) → j < at.count → RowOf a (cand w (at.from + 2 * j)).id w' at j
  pub size : length w' ≡ length w
  pub same : (j : ℕ) → j < at.stats → get_or w' j 0 ≡ get_or w j 0

-- ---- the candidates of a plan
-- whether the row of slot s holds id in its present version
abbrev pub refers : Arrays → ℕ → ℕ → Bool
refers a id s = elem id (refs_of a s)

-- rows for the slots of some candidates
pub record RowsIn (a : Arrays) (cs : List Candidate) : Type 0 where
  pub stored : All (λ c. (c.id * a.degree + a.degree ≤ length a.targets) × (c.id * a.degree + a.degree ≤ length a.edges)) cs

-- the slots of those that pass a test are those of the first r candidates of w
pub record Passed (p : ℕ → Bool) (cs : List Candidate) (r : ℕ) (w : List ℕ) : Type 0 where
  pub list : ids (cands w 0 r) ≡ filter p (ids cs)
  pub few : r ≤ length cs

-- the slots recovered around the vector of slot s
abbrev pub recovered_by : View → ℕ → ℕ → List ℕ
recovered_by v beam s = filter (λ t. elem s (v.refs t)) (ids (search_pool v (v.space.vector s) beam))

-- the candidates of its plan
abbrev pub candidates_by : View → ℕ → ℕ → List ℕ → List ℕ
candidates_by v beam s outgoing = filter v.live (sorted_set (outgoing ++ recovered_by v beam s))

-- slot s is dead, its row lies at `at`, r slots, behind the walk's words, and there is room for 320
pub record Collectable (a : Arrays) (s entry beam : ℕ) (w : List ℕ) (at r : ℕ) : Type 0 where
  pub slot_in : s < length a.marks
  pub dead : is_valid a.marks s ≡ false
  pub entry_in : entry < length a.marks
  pub beam_most : beam ≤ 256
  pub low : a.degree ≤ 64
  pub few : r ≤ a.degree
  pub behind : work_at (length a.marks) ≤ at
  pub inside : at + 640 ≤ length w

-- q slots are recovered, and the m candidates of the plan lie at `at`
pub record Collects (a : Arrays) (s entry beam : ℕ) (w : List ℕ) (at r q m : ℕ) (w' : List ℕ) : Type 0 where
  pub counts : (alpha : Float) → q ≡ length (recovered_by (store_view (index_of alpha entry a)) beam s)
  pub list : (alpha : Float) → ids (cands w' at m) ≡ candidates_by (store_view (index_of alpha entry a)) beam s (ids (cands w at r))
  pub plan : Plan a.marks w' at m
  pub found : q ≤ 256
  pub size : length w' ≡ length w
  pub same : (j : ℕ) → work_at (length a.marks) ≤ j → (at ≤ j → at + 640 ≤ j) → get_or w' j 0 ≡ get_or w j 0

-- ---- all plans
-- the counts of a plan but the first
abbrev pub counted : List ℕ → ℕ → ℕ → ℕ → List ℕ
counted w q m n = set (set (set w 1 q) 2 m) 3 n

-- the deleted slots are dead, and the first count of each is that of its row
pub record Makeable (a : Arrays) (how : Repair) (w : List ℕ) (at : Layout) : Type 0 where
  pub entry_in : how.entry < length a.marks
  pub beam_most : how.beam ≤ 256
  pub degree_most : how.degree ≤ 16
  pub behind : work_at (length a.marks) ≤ at.from
  pub table : Table a.degree w at
  pub inside : Inside (length a.marks) w at.from at.count
  pub dead : All (λ c. is_valid a.marks c.id ≡ false) (cands w at.from at.count)
  pub rows : (j : ℕ) → j < at.count → row_count w at j ≤ a.degree

-- plan j, of slot s: its four counts and its candidates
pub record PlanOf (a : Arrays) (s : ℕ) (how : Repair) (w : List ℕ) (at : Layout) (j : ℕ) (w' : List ℕ) : Type 0 where
  pub row : row_count w' at j ≡ row_count w at j
  pub recovered : (alpha : Float) → get_or w' (at.stats + 4 * j + 1) 0 ≡ length (recovered_by (store_view (index_of alpha how.entry a)) how.beam s)
  pub list : (alpha : Float) → ids (cands w' (at.plans + 640 * j) (count_at w' at.stats j))
      ≡ candidates_by (store_view (index_of alpha how.entry a)) how.beam s (ids (cands w (at.plans + 640 * j) (row_count w at j)))
  pub plan : Plan a.marks w' (at.plans + 640 * j) (count_at w' at.stats j)
  pub links : Attempted how.degree (count_at w' at.stats j) (get_or w' (at.stats + 4 * j + 3) 0)

pub record PlansMade (a : Arrays) (how : Repair) (w : List ℕ) (at : Layout) (w' : List ℕ) : Type 0 where
  pub each : (j : ℕ) → j < at.count → PlanOf a (cand w (at.from + 2 * j)).id how w at j w'
  pub size : length w' ≡ length w
  pub same : (i : ℕ) → work_at (length a.marks) ≤ i → i < at.stats → get_or w' i 0 ≡ get_or w i 0
