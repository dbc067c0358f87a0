-- A delete's own tests, its names as slots, and the index that it leaves by value. Assumes nothing.
use Rattle.std.specs.Prelude.{ℕ, ◌-◌, ◌≤◌, false, List, [], ◌∷◌, ◌≡◌, length, ltb}
use Rattle.std.proofs.Math.Option.{none}
use Rattle.slots.specs.Sizes.{Slices, lengths_of, limits}
use Rattle.slots.specs.Scratch.{size_answer}
use Rattle.calls.specs.Calls.{of_slots, Delete}
use Rattle.calls.specs.Refusals.{Test, first_of, delete_over, index_tests}
use Rattle.calls.specs.State.{shown, stored}
use Rattle.calls.specs.Step.{named}
use Rattle.index.specs.declared.Index.{Index}
use Rattle.index.specs.Index.{state_of}
use Rattle.updating.specs.declared.Changed.{Changed}

-- 7 and 8
abbrev pub delete_tests : Index → Delete → ℕ → List Test
delete_tests index a scratch = (7, delete_over limits a) ∷ (8, ltb scratch (size_answer index.capacity)) ∷ []

-- a delete of slots
abbrev pub slot_delete : List ℕ → ℕ → ℕ → Delete
slot_delete slots repair_beam repair_degree = record { names = slots; naming = of_slots; repair_beam = repair_beam; repair_degree = repair_degree }

-- another entry and another live count
abbrev pub with_entry : Index → ℕ → ℕ → Index
with_entry i entry live =
    record { dim = i.dim; capacity = i.capacity; degree = i.degree; alpha = i.alpha; entry = entry; live = live; guard = i.guard }

-- with how many slots fewer
abbrev pub fewer : Index → ℕ → ℕ → Changed
fewer i entry n = record { index = with_entry i entry (i.live - n); count = n }

-- a delete by slots that stands for one by names: it names as many slots, and of an index that no test that calls share turns back those that the names name,
-- where they are few
pub record BySlots (index : Index) (s : Slices) (a b : Delete) : Type 0 where
  pub names : first_of (index_tests limits (lengths_of s) (shown stored (state_of index s)) false []) ≡ none → length a.names ≤ limits.ids
      → b.names ≡ named (state_of index s) a
  pub many : length b.names ≡ length a.names
  pub rest : b ≡ slot_delete b.names a.repair_beam a.repair_degree
