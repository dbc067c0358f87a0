-- Demand 1 of the code: a run is turned back exactly where one of its call's tests holds, with the number of the first, and leaves all that it is lent;
-- every other run is carried out. Assumes nothing.
use Rattle.std.specs.Prelude.{ℕ, true, List, ◌↔◌, ◌≡◌}
use Rattle.lists.specs.Lists.{elem}
use Rattle.calls.specs.Calls.{read_vector}
use Rattle.calls.specs.Refusals.{Test}
use Rattle.calls.specs.Refused.{First, rows, tests_of}
use Rattle.calls.specs.State.{stored}
use Rattle.calls.specs.Step.{perform}
use Rattle.exported.specs.Runs.{ExportedRun, Exported}
use Rattle.exported.specs.Performs.{state_in, call_in, Untouched, Gives}

abbrev pub tests_in : ExportedRun → List Test
tests_in r = tests_of stored (state_in r.lent) (call_in r)

pub record TurnsBack (r : ExportedRun) : Type 0 where
  -- what is returned: the number of the first test that holds, and 0 exactly where none does
  pub number : ((s : ℕ) → r.operation ≡ read_vector s → ⊥) → (n : ℕ) → First n (tests_in r) ↔ ((r.returned ≡ n) × (n ≡ 0 → ⊥))
  -- a number other than 0 is one of the rows that apply to the call, where no vector is read
  pub listed : ((s : ℕ) → r.operation ≡ read_vector s → ⊥) → (r.returned ≡ 0 → ⊥) → elem r.returned (rows r.operation) ≡ true
  -- where a vector is read, the length of the empty part
  pub empty : (s : ℕ) → r.operation ≡ read_vector s → (n : ℕ) → First n (tests_in r) → r.returned ≡ 0
  pub kept : (n : ℕ) → First n (tests_in r) → Untouched r
  -- every other run
  pub done : ((n : ℕ) → First n (tests_in r) → ⊥) → Gives r (perform stored (state_in r.lent) r.operation)

abbrev pub ExportedDemand1 : Type 0
ExportedDemand1 = (r : ExportedRun) → Exported r → TurnsBack r
