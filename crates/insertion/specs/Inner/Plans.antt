-- The plans of a chunk in the words: what the functions ask, and what they leave. Assumes nothing.
use Rattle.std.specs.Prelude.{ℕ, zero, suc, ◌+◌, ◌-◌, ◌*◌, ◌≤◌, ◌<◌, ◌≡◌, List, Float, length, get_or}
use Rattle.lists.specs.Lists.{All}
use Rattle.slots.specs.Scratch.{marks_at}
use Rattle.slots.specs.Store.{Arrays, store_view}
use Rattle.candidates.specs.Candidates.{Candidate}
use Rattle.candidates.specs.Inner.Words.{cands, Small}
use Rattle.row.specs.Row.{index_of}
use Rattle.insertion.specs.declared.layout.Layout.{Layout}
use Rattle.insert.specs.Insert.{Plan, plan}
use Rattle.insertion.specs.Inner.Chains.{Chains}
use Rattle.insertion.specs.Inner.Filling.{filling_at}

-- ---- one plan
-- the plan of the k-th slot of a chunk
abbrev pub plan_at : Arrays → Float → ℕ → ℕ → List ℕ → List ℕ → ℕ → Plan
plan_at a alpha entry beam bytes slots k = plan (store_view (index_of alpha entry a)) beam (filling_at a.dim bytes slots k)

-- the i-th plan lies behind n candidates of the plans before, and ends at r
pub record Planned (degree capacity : ℕ) (plan : Plan) (w : List ℕ) (at : Layout) (i n r : ℕ) (w' : List ℕ) : Type 0 where
  pub count : r ≡ n + length plan.outgoing
  pub list : cands w' (at.plans + 2 * n) (length plan.outgoing) ≡ plan.outgoing
  pub few : r ≤ n + degree
  pub small : Small plan.outgoing
  pub inside : All (λ c. c.id < capacity) plan.outgoing
  pub owned : (j : ℕ) → n ≤ j → j < r → get_or w' (at.sources + j) 0 ≡ plan.id
  pub ended : get_or w' (at.ends + i) 0 ≡ r
  pub size : length w' ≡ length w
  pub same : (j : ℕ) → marks_at + capacity ≤ j → (at.plans + 2 * n ≤ j → at.plans + 2 * (n + degree) ≤ j) → (at.sources + n ≤ j → at.sources + (n + degree) ≤ j)
      → (j ≡ at.ends + i → ⊥) → get_or w' j 0 ≡ get_or w j 0

-- ---- all plans of a chunk
-- the first of the k-th plan's candidates, behind those of the plan before, and all of them
abbrev pub start_of : List ℕ → Layout → ℕ → ℕ
start_of w at zero = 0
start_of w at (suc k) = get_or w (at.ends + k) 0

abbrev pub plan_cands : List ℕ → Layout → ℕ → List Candidate
plan_cands w at k = cands w (at.plans + 2 * start_of w at k) (get_or w (at.ends + k) 0 - start_of w at k)

-- the k-th plan as it lies in the words
pub record Lies (capacity : ℕ) (plan : Plan) (at : Layout) (k : ℕ) (w : List ℕ) : Type 0 where
  pub count : get_or w (at.ends + k) 0 ≡ start_of w at k + length plan.outgoing
  pub list : cands w (at.plans + 2 * start_of w at k) (length plan.outgoing) ≡ plan.outgoing
  pub small : Small plan.outgoing
  pub inside : All (λ c. c.id < capacity) plan.outgoing
  pub owned : (j : ℕ) → start_of w at k ≤ j → j < get_or w (at.ends + k) 0 → get_or w (at.sources + j) 0 ≡ plan.id

-- the first m plans, n candidates in all
pub record Laid (degree capacity : ℕ) (plans : ℕ → Plan) (at : Layout) (m n : ℕ) (w : List ℕ) : Type 0 where
  pub last : start_of w at m ≡ n
  pub few : n ≤ m * degree
  pub each : (k : ℕ) → k < m → Lies capacity (plans k) at k w
  pub within : (k : ℕ) → k < m → get_or w (at.ends + k) 0 ≤ n

pub record AllPlanned (degree capacity : ℕ) (plans : ℕ → Plan) (w : List ℕ) (at : Layout) (m n : ℕ) (w' : List ℕ) : Type 0 where
  pub laid : Laid degree capacity plans at m n w'
  pub size : length w' ≡ length w

-- the plans of m slots, n candidates in all, chained by slot
pub record Linked (degree capacity : ℕ) (plans : ℕ → Plan) (w : List ℕ) (at : Layout) (m n : ℕ) (w' : List ℕ) : Type 0 where
  pub laid : Laid degree capacity plans at m n w'
  pub chains : Chains w' at n capacity
  pub size : length w' ≡ length w
