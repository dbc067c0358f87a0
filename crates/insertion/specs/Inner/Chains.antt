-- What the plans of a chunk name, chained by slot in the words: what the functions ask, and what they leave. Assumes nothing.
use Rattle.std.specs.Prelude.{ℕ, zero, suc, ◌+◌, ◌*◌, ◌≤◌, ◌<◌, cond, ◌≡◌, List, [], ◌∷◌, ◌++◌, eqb, length, get_or}
use Rattle.slots.specs.Scratch.{marks_at}
use Rattle.candidates.specs.Candidates.{Candidate}
use Rattle.candidates.specs.Inner.Words.{pair, cands, Outside}
use Rattle.insertion.specs.declared.layout.Layout.{Layout}
use Rattle.insertion.specs.Inner.Layout.{Spread}

-- the k words at p are x
pub record Repeated (w : List ℕ) (p k x : ℕ) (w' : List ℕ) : Type 0 where
  pub all : (i : ℕ) → i < k → get_or w' (p + i) 0 ≡ x
  pub size : length w' ≡ length w
  pub same : Outside p k w w'

-- the head of slot t's chain
abbrev pub head : List ℕ → ℕ → ℕ
head w t = get_or w (marks_at + t) 0

-- ---- the chains
-- of k candidates from the i-th on those whose slot is t, by their numbers
unfoldable pub at_slot : List ℕ → Layout → ℕ → ℕ → ℕ → List ℕ
at_slot w at t i zero = []
at_slot w at t i (suc k) = let rest = at_slot w at t (suc i) k in cond (eqb (get_or w (at.plans + 2 * i + 1) 0) t) (i ∷ rest) rest

-- a chain that begins with x: candidates from `from` on, rising; n is its end
pub data Chain (w : List ℕ) (at : Layout) (n : ℕ) : ℕ → ℕ → List ℕ → Type 0 where
  end : {from : ℕ} → Chain w at n from n []
  link : {from x : ℕ} {l : List ℕ} → from ≤ x → x < n → Chain w at n (suc x) (get_or w (at.nexts + x) 0) l → Chain w at n from x (x ∷ l)

-- each slot's chain is of the candidates that name it
abbrev pub Chains : List ℕ → Layout → ℕ → ℕ → Type 0
Chains w at n capacity = (t : ℕ) → t < capacity → Chain w at n 0 (head w t) (at_slot w at t 0 n)

-- n candidates of plans, whose slots are below the capacity, with a head for each slot
pub record Chainable (w : List ℕ) (at : Layout) (n capacity : ℕ) : Type 0 where
  pub heads_in : marks_at + capacity ≤ at.plans
  pub spread : Spread n at
  pub room : at.ends ≤ length w
  pub inside : (j : ℕ) → j < n → get_or w (at.plans + 2 * j + 1) 0 < capacity

pub record Chained (w : List ℕ) (at : Layout) (n capacity : ℕ) (w' : List ℕ) : Type 0 where
  pub chains : (t : ℕ) → t < capacity → Chain w' at n 0 (head w' t) (at_slot w at t 0 n)
  pub size : length w' ≡ length w
  pub same : (j : ℕ) → (marks_at ≤ j → marks_at + capacity ≤ j) → (at.nexts ≤ j → at.nexts + n ≤ j) → get_or w' j 0 ≡ get_or w j 0

-- ---- what comes in at a slot
-- candidates by their numbers, each with its source in place of its slot
abbrev pub incoming_at : List ℕ → Layout → List ℕ → List Candidate
incoming_at w at [] = []
incoming_at w at (j ∷ l) = pair (get_or w (at.plans + 2 * j) 0) (get_or w (at.sources + j) 0) ∷ incoming_at w at l

-- m candidates are in the list, and those that come in at t have room behind them
pub record Takeable (w : List ℕ) (at : Layout) (n t m : ℕ) : Type 0 where
  pub chain : Chain w at n 0 (head w t) (at_slot w at t 0 n)
  pub head_in : marks_at + t < at.plans
  pub spread : Spread n at
  pub room : at.list + 2 * (m + n) ≤ length w

pub record Took (w : List ℕ) (at : Layout) (n t m r : ℕ) (w' : List ℕ) : Type 0 where
  pub list : cands w' at.list r ≡ cands w at.list m ++ incoming_at w at (at_slot w at t 0 n)
  pub few : r ≤ m + n
  pub size : length w' ≡ length w
  pub same : Outside (at.list + 2 * m) (2 * n) w w'
