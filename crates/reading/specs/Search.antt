-- What a search gives. Assumes nothing.
use Rattle.std.specs.Prelude.{ℕ, List, [], ◌≡◌, Float, length, Result, Ok, Err}
use Rattle.slots.specs.Sizes.{Slices}
use Rattle.candidates.specs.Candidates.{Candidate}
use Rattle.index.specs.declared.Index.{Index}
use Rattle.index.specs.declared.Refusal.{Refusal}
use Rattle.index.specs.Refusal.{number_of}
use Rattle.calls.specs.Calls.{Search, search, Answer, refused, found}
use Rattle.calls.specs.Outputs.{Outputs}
use Rattle.calls.specs.Runs.{Meets}
use Rattle.index.specs.Run.{looking}
use Rattle.reading.specs.declared.searching.Searching.{Searching}
use Rattle.reading.specs.declared.searching.Found.{Found}

-- ---- the run, and what `search` promises

abbrev pub searching : List ℕ → ℕ → ℕ → Search
searching query k beam = record { query = query; k = k; beam = beam }

-- the three lists that a search is lent
abbrev pub search_outputs : List ℕ → List Float → List ℕ → Outputs
search_outputs slots dists numbers = record { slots = slots; dists = dists; numbers = numbers; stats = []; checked = []; lost = [] }

-- as the code has them
abbrev pub searching_of : Searching → Search
searching_of a = searching a.query.now a.k a.beam

abbrev pub found_of : Found → Outputs
found_of f = search_outputs f.slots.now f.dists.now f.numbers.now

-- what a search leaves of lists that it writes: the same ones
pub record SameFound (f f' : Found) : Type 0 where
  pub slots : f'.slots.ghost_name ≡ f.slots.ghost_name
  pub dists : f'.dists.ghost_name ≡ f.dists.ghost_name
  pub numbers : f'.numbers.ghost_name ≡ f.numbers.ghost_name

unfoldable pub found_as : Result ℕ Refusal → List Candidate → List ℕ → Answer
found_as (Err e) cs ns = refused (number_of e)
found_as (Ok n) cs ns = found cs ns

-- the outputs and the scratch as they are left have a prime; the code answers only how many are found
pub record Searches (index : Index) (s : Slices) (a : Search) (outputs : Outputs) (scratch : List ℕ) (outputs' : Outputs) (scratch' : List ℕ) (r : Result ℕ Refusal) : Type 0 where
  pub nearest : List Candidate
  pub numbers : List ℕ
  pub counts : (n : ℕ) → r ≡ Ok n → n ≡ length nearest
  pub meets : Meets (looking index s (search a) outputs scratch outputs' scratch' (found_as r nearest numbers))
