-- What the tests decide, and what is known where none that calls share holds. Assumes nothing.
use Rattle.std.specs.Prelude.{ℕ, ◌≤◌, ◌<◌, Bool, true, false, not, ◌||◌, List, ◌≡◌, eqb, ltb, length, Result}
use Rattle.lists.specs.Lists.{filter, range}
use Rattle.slots.specs.Sizes.{Slices, Lengths, lengths_of, limits, sizes_ok, alpha_ok, weights_ok}
use Rattle.slots.specs.View.{live_slots}
use Rattle.slots.specs.Store.{Shaped, is_valid, store_view}
use Rattle.numbers.specs.Numbers.{Labelled, labels_ok}
use Rattle.index.specs.declared.Index.{Index}
use Rattle.index.specs.declared.Refusal.{Refusal}
use Rattle.calls.specs.Calls.{Making}
use Rattle.calls.specs.Refusals.{Test, first_of, making_tests, index_tests, guard_fault}
use Rattle.calls.specs.State.{stored, shown}
use Rattle.index.specs.Refusal.{turned_back}
use Rattle.index.specs.Index.{sizes_of, guard_of, state_of}

-- row 6, of an index whose slices have n marks
abbrev pub index_fault : Index → Slices → ℕ → Bool
index_fault index s n =
    not (eqb index.live (length (filter (is_valid s.marks) (range 0 n)))) || not (ltb index.entry index.capacity) || guard_fault limits (guard_of index.guard)
    || not (labels_ok (is_valid s.marks) n index.live s.numbers s.summary)

-- r turns a making back with the number of the first of its tests that holds, and does not if none does
pub record Judged (m : Making) (lent : Lengths) {A : Type 0} (r : Result A Refusal) : Type 0 where
  pub does : turned_back r ≡ first_of (making_tests limits lent m)

-- r turns a call back with the number of the first test that holds, of the shared ones and then of the call's own, and does not if none does
pub record Decided (index : Index) (s : Slices) (wrong : Bool) (rest : List Test) {A : Type 0} (r : Result A Refusal) : Type 0 where
  pub does : turned_back r ≡ first_of (index_tests limits (lengths_of s) (shown stored (state_of index s)) wrong rest)

-- an index and nine slices of which no shared test holds
pub record Passed (index : Index) (s : Slices) : Type 0 where
  pub shaped : Shaped index.capacity (state_of index s).graph.arrays
  pub pool_long : length s.pool ≡ limits.pool
  pub numbers_long : length s.numbers ≡ index.capacity
  pub summary_long : length s.summary ≡ index.capacity
  pub weights_long : length s.weights ≡ index.dim
  pub dim_low : 1 ≤ index.dim
  pub dim_high : index.dim ≤ 256
  pub capacity_low : 1 ≤ index.capacity
  pub capacity_high : index.capacity ≤ 65536
  pub degree_low : 1 ≤ index.degree
  pub degree_high : index.degree ≤ 64
  pub sizes_right : sizes_ok limits (sizes_of index) ≡ true
  pub alpha_right : alpha_ok index.alpha ≡ true
  pub weights_right : weights_ok limits s.weights ≡ true
  pub entry_inside : index.entry < index.capacity
  pub live_right : index.live ≡ length (live_slots (store_view (state_of index s).graph))
  pub guard_right : guard_fault limits (guard_of index.guard) ≡ false
  pub labelled : Labelled (is_valid s.marks) index.capacity s.numbers s.summary
