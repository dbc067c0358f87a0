-- What a delete gives. Assumes nothing.
use Rattle.std.specs.Prelude.{ℕ, ◌≤◌, List, [], map, ◌≡◌, length, Result, Ok, Err}
use Rattle.lists.specs.Lists.{range}
use Rattle.slots.specs.Sizes.{Slices}
use Rattle.repair.specs.Delete.{Stats}
use Rattle.deletion.specs.Batch.{stats_at, stats_of}
use Rattle.index.specs.declared.Index.{Index}
use Rattle.index.specs.declared.Refusal.{Refusal}
use Rattle.index.specs.Refusal.{number_of}
use Rattle.updating.specs.declared.Changed.{Changed}
use Rattle.updating.specs.declared.names.Naming.{Naming}
use Rattle.updating.specs.declared.names.Naming.TheVariants.{Slots, Numbers}
use Rattle.calls.specs.Calls as Calls
use Rattle.calls.specs.Calls.{of_slots, of_numbers, Delete, delete, Answer, refused, deleted}
use Rattle.calls.specs.Outputs.{Outputs, written}
use Rattle.calls.specs.Runs.{Meets}
use Rattle.index.specs.Run.{changing}
use Rattle.updating.specs.declared.deleting.Deleting as lent

-- ---- the run, and what `delete` promises

abbrev pub naming_of : Naming → Calls.Naming
naming_of Slots = of_slots
naming_of Numbers = of_numbers

abbrev pub deleting : List ℕ → Naming → ℕ → ℕ → Delete
deleting names naming repair_beam repair_degree = record { names = names; naming = naming_of naming; repair_beam = repair_beam; repair_degree = repair_degree }

-- as the code has it
abbrev pub deleting_of : lent.Deleting → Delete
deleting_of a = deleting a.names.now a.naming a.repair_beam a.repair_degree

-- the list that a delete is lent
abbrev pub stats_outputs : List Stats → Outputs
stats_outputs stats = record { slots = []; dists = []; numbers = []; stats = stats; checked = []; lost = [] }

unfoldable pub deleted_as : Result Changed Refusal → List Stats → Answer
deleted_as (Err e) ts = refused (number_of e)
deleted_as (Ok c) ts = deleted ts

-- the index by value that the app has then: the one that it had, or the new one
unfoldable pub index_left : Index → Result Changed Refusal → Index
index_left index (Err e) = index
index_left index (Ok c) = c.index

-- what is left has a prime; the code answers the new index and how many slots are emptied, and leaves their stats in the scratch. The call is that of a
-- caller who then writes them to his list of so much room, whatever it held.
pub record Deletes (index : Index) (s : Slices) (a : Delete) (room : ℕ) (scratch : List ℕ) (s' : Slices) (scratch' : List ℕ) (r : Result Changed Refusal) : Type 0 where
  pub stats : List Stats
  pub words : (c : Changed) → r ≡ Ok c → stats ≡ map (stats_of scratch' (stats_at index.capacity)) (range 0 c.count)
  pub fits : (c : Changed) → r ≡ Ok c → c.count ≤ room
  pub meets : (before : List Stats) → length before ≡ room
      → Meets (changing index s (delete a) (stats_outputs before) scratch (index_left index r) s' (written (deleted_as r stats) (stats_outputs before)) scratch' (deleted_as r stats))
