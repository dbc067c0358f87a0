-- A search's own tests, and its outputs. Assumes nothing.
use Rattle.std.specs.Prelude.{ℕ, ◌/◌, ◌≤◌, min, ◌||◌, List, [], ◌∷◌, ◌≡◌, ltb, Float, length}
use Rattle.lists.specs.Lists.{put_front}
use Rattle.slots.specs.Sizes.{limits}
use Rattle.slots.specs.Scratch.{size_answer}
use Rattle.candidates.specs.Candidates.{Candidate, ids}
use Rattle.candidates.specs.Inner.Words.{cands_of, Small}
use Rattle.calls.specs.Calls.{Search}
use Rattle.calls.specs.Outputs.{Outputs, distances}
use Rattle.calls.specs.Refusals.{Test}

-- 7 and 8, of a search with these outputs and so much scratch
abbrev pub search_tests : ℕ → Search → Outputs → ℕ → List Test
search_tests capacity a o scratch =
    (7, ltb limits.beam a.beam || ltb (min (min (length o.slots) (length o.dists)) (length o.numbers)) a.k) ∷ (8, ltb scratch (size_answer capacity)) ∷ []

-- there is room for the candidates of a list
pub record Fits (list : List ℕ) (slots : List ℕ) (dists : List Float) : Type 0 where
  pub small : Small (cands_of list)
  pub slots_long : length list / 2 ≤ length slots
  pub dists_long : length list / 2 ≤ length dists

-- they are written
pub record Shown (cs : List Candidate) (slots : List ℕ) (dists : List Float) (slots' : List ℕ) (dists' : List Float) : Type 0 where
  pub slots_written : slots' ≡ put_front (ids cs) slots
  pub dists_written : dists' ≡ put_front (distances cs) dists
