-- The slots that a delete empties, in lent words: what the functions ask, and what they leave. Assumes nothing.
use Rattle.std.specs.Prelude.{ℕ, ◌+◌, ◌*◌, ◌/◌, ◌≤◌, ◌<◌, cond, List, ◌≡◌, length, set}
use Rattle.lists.specs.Lists.{All, filter, foldl, elem, range, sorted_set}
use Rattle.candidates.specs.Candidates.{ids}
use Rattle.candidates.specs.Inner.Words.{cands, cands_of, Outside}
use Rattle.slots.specs.Store.{is_valid}
use Rattle.repair.specs.Delete.{first_or}

-- ---- what is left of the words w, as w'
-- the live ones of some ids are the slots of the first r candidates of w
pub record Gathered (marks named : List ℕ) (r : ℕ) (w : List ℕ) : Type 0 where
  pub list : ids (cands w 0 r) ≡ filter (is_valid marks) named
  pub few : r ≤ length named

-- the slots of a list are rising, each once, r of them, at its front
pub record Risen (w : List ℕ) (r : ℕ) (w' : List ℕ) : Type 0 where
  pub list : ids (cands w' 0 r) ≡ sorted_set (ids (cands_of w))
  pub few : r ≤ length w / 2

-- the slots that a delete of some ids empties are those of the first r candidates of w
pub record Listed (marks named : List ℕ) (r : ℕ) (w : List ℕ) : Type 0 where
  pub list : ids (cands w 0 r) ≡ sorted_set (filter (is_valid marks) named)
  pub few : r ≤ length named

-- the slots that a delete of some ids empties: `emptied`
pub record Emptied (marks named w : List ℕ) (at r : ℕ) (w' : List ℕ) : Type 0 where
  pub list : ids (cands w' at r) ≡ sorted_set (filter (is_valid marks) named)
  pub few : r ≤ length named
  pub size : length w' ≡ length w
  pub same : Outside at (2 * length named) w w'

-- slots of the n candidates at `at`, inside: a fact of lent words that is kept while marks and rows change
pub record Inside (slots : ℕ) (w : List ℕ) (at n : ℕ) : Type 0 where
  pub each : All (λ c. c.id < slots) (cands w at n)
  pub words : at + 2 * n ≤ length w

-- ---- marks and entry
abbrev pub cleared : List ℕ → List ℕ → List ℕ
cleared marks ss = foldl (λ m s. set m s 0) marks ss

abbrev pub lowest_live : List ℕ → ℕ → ℕ
lowest_live marks entry = first_or entry (filter (is_valid marks) (range 0 (length marks)))

-- `new_entry`, by the marks
abbrev pub entry_after : List ℕ → ℕ → List ℕ → ℕ
entry_after marks entry ss = cond (elem entry ss) (lowest_live marks entry) entry
