-- The outgoing rows of a chunk: what the functions ask, and what they leave. Assumes nothing.
use Rattle.std.specs.Prelude.{ℕ, ◌+◌, ◌*◌, ◌≤◌, ◌<◌, cond, List, ltb, length, get_or}
use Rattle.slots.specs.Scratch.{marks_at}
use Rattle.slots.specs.Store.{Store, store_ops}
use Rattle.candidates.specs.Candidates.{Candidate, ids}
use Rattle.insertion.specs.declared.layout.Layout.{Layout}
use Rattle.insertion.specs.Inner.Layout.{Spread}
use Rattle.insertion.specs.Inner.Chains.{head}
use Rattle.insertion.specs.Inner.Filling.{Inside}
use Rattle.insertion.specs.Inner.Plans.{start_of, plan_cands}

-- the slots of candidates are the row of slot s, unless one of the n candidates of the plans names it: then its head is below n
unfoldable pub own_row : List ℕ → ℕ → List Candidate → Store → ℕ → Store
own_row w n cs b s = cond (ltb (head w s) n) b (store_ops.write b s (ids cs))

-- the k-th slot of a chunk, with its plan
unfoldable pub own_at : List ℕ → Layout → ℕ → List ℕ → Store → ℕ → Store
own_at w at n slots b k = own_row w n (plan_cands w at k) b (get_or slots k 0)

-- the candidates from b up to e are few enough for slot s's row, and words for their slots are left
pub record OwnRow (degree s : ℕ) (w : List ℕ) (at : Layout) (b e : ℕ) : Type 0 where
  pub rising : b ≤ e
  pub few : e ≤ b + degree
  pub plans_in : at.plans + 2 * e ≤ at.chosen
  pub head_in : marks_at + s < at.chosen
  pub room : at.chosen + degree ≤ length w
  pub below : at.chosen + degree ≤ 8388608

-- the plans of a chunk's slots, as the words lent to one call hold them: a fact of these words, so it is no field
pub record OutgoingRows (degree capacity : ℕ) (slots w : List ℕ) (at : Layout) (n : ℕ) : Type 0 where
  pub few : length slots ≤ 256
  pub inside : Inside capacity slots
  pub heads_in : marks_at + capacity ≤ at.plans
  pub rising : (k : ℕ) → k < length slots → start_of w at k ≤ get_or w (at.ends + k) 0
  pub each_few : (k : ℕ) → k < length slots → get_or w (at.ends + k) 0 ≤ start_of w at k + degree
  pub within : (k : ℕ) → k < length slots → get_or w (at.ends + k) 0 ≤ n
  pub spread : Spread n at
  pub list_in : at.list ≤ at.chosen
  pub room : at.chosen + degree ≤ length w
  pub below : at.chosen + degree ≤ 8388608
