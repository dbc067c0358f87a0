-- The acts of a delete: what the functions ask, and what they leave. Assumes nothing.
use Rattle.std.specs.Prelude.{ℕ, ◌+◌, ◌*◌, ◌≤◌, ◌<◌, List, ◌≡◌, Float, length, get_or}
use Rattle.lists.specs.Lists.{foldl}
use Rattle.candidates.specs.Candidates.{Candidate, ids}
use Rattle.candidates.specs.Inner.Words.{cands}
use Rattle.slots.specs.Store.{Arrays, store_ops}
use Rattle.row.specs.Row.{index_of}
use Rattle.links.specs.Inner.Linking.{between, apply_link}
use Rattle.links.specs.Inner.Planning.{Area, plans_at}
use Rattle.deletion.specs.declared.layout.Layout.{Layout}
use Rattle.deletion.specs.declared.plans.Repair.{Repair}
use Rattle.deletion.specs.Inner.Layout.{layout_of}
use Rattle.deletion.specs.Inner.Naming.{Emptied}
use Rattle.deletion.specs.Inner.Plans.{RowsTaken, Makeable, PlansMade}

-- ---- the first acts
-- 256 ids at most, room for the slots and their plans, and rows of at most 64
pub record Takeable (a : Arrays) (named w : List ℕ) : Type 0 where
  pub ids_most : length named ≤ 256
  pub room : (layout_of (length a.marks) 0).base ≤ length w
  pub low : a.degree ≤ 64

-- the slots of the layout stood in the words `taken`, and their rows are taken
pub record Taken (a : Arrays) (named w : List ℕ) (at : Layout) (w' : List ℕ) : Type 0 where
  pub place : at ≡ layout_of (length a.marks) at.count
  pub taken : List ℕ
  pub list : Emptied a.marks named w at.from at.count taken
  pub rows : RowsTaken a taken at w'

-- ---- the last act
-- the slots of some candidates are finished
pub record AllFinished (a : Arrays) (cs : List Candidate) (a' : Arrays) : Type 0 where
  pub does : (alpha : Float) (entry : ℕ) → index_of alpha entry a' ≡ foldl store_ops.finish (index_of alpha entry a) (ids cs)

-- ---- the later acts
-- the plans can be made, and words behind them are room to apply the links of one
pub record Repairable (a : Arrays) (how : Repair) (w : List ℕ) (at : Layout) : Type 0 where
  pub makes : Makeable a how w at
  pub placed : at.plans + 640 * at.count ≤ at.base
  pub area : Area a.degree w at.base

-- the plans stood in the words `made`; their links were applied, and the slots were finished
pub record Repaired (a : Arrays) (how : Repair) (w : List ℕ) (at : Layout) (a' : Arrays) (w' : List ℕ) : Type 0 where
  pub made : List ℕ
  pub plan : PlansMade a how w at made
  pub does : index_of how.alpha how.entry a'
      ≡ foldl store_ops.finish (foldl apply_link (index_of how.alpha how.entry a) (plans_at (between a.measure a.dim a.vectors) how.degree how.entry made at.stats at.plans at.count))
      (ids (cands w at.from at.count))
  pub size : length w' ≡ length w
  pub same : (i : ℕ) → i < at.base → get_or w' i 0 ≡ get_or made i 0
