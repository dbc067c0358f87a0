-- The rows of the slots that the plans of a chunk name: what the functions ask, and what they leave. Assumes nothing.
use Rattle.std.specs.Prelude.{ℕ, ◌+◌, ◌*◌, ◌≤◌, ◌<◌, cond, List, ◌++◌, ltb, length, get_or}
use Rattle.slots.specs.Scratch.{marks_at}
use Rattle.slots.specs.Store.{Store, store_view, store_ops}
use Rattle.candidates.specs.Candidates.{ids}
use Rattle.prune.specs.Prune.{prune}
use Rattle.row.specs.Row.{live_scored}
use Rattle.insertion.specs.declared.layout.Layout.{Layout}
use Rattle.insertion.specs.Inner.Layout.{Spread}
use Rattle.insertion.specs.Inner.Chains.{head, at_slot, Chains, incoming_at}

-- the row of slot s is pruned from its live references, then those that come in, if one of the n candidates of the plans names it
unfoldable pub renewed_at : List ℕ → Layout → ℕ → Store → ℕ → Store
renewed_at w at n b s =
    cond (ltb (head w s) n) (store_ops.write b s (ids (prune (store_view b) s (live_scored (store_view b) s ++ incoming_at w at (at_slot w at s 0 n))))) b

-- n candidates of plans, chained by slot, and room for a list and a selection: a fact of the words lent to one call, so it is no field
pub record Renewable (degree capacity : ℕ) (w : List ℕ) (at : Layout) (n : ℕ) : Type 0 where
  pub chains : Chains w at n capacity
  pub heads_in : marks_at + capacity ≤ at.plans
  pub spread : Spread n at
  pub list_in : at.list + 2 * (degree + n) ≤ at.chosen
  pub room : at.chosen + 2 * degree ≤ length w
  pub below : at.chosen + 2 * degree ≤ 8388608
  pub small : (j : ℕ) → j < n → get_or w (at.plans + 2 * j) 0 ≤ 16777216
