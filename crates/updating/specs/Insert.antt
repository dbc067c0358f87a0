-- What an insert gives. Assumes nothing.
use Rattle.std.specs.Prelude.{ℕ, List, [], ◌≡◌, length, Result, Ok, Err}
use Rattle.slots.specs.Sizes.{Slices}
use Rattle.index.specs.declared.Index.{Index}
use Rattle.index.specs.declared.Refusal.{Refusal}
use Rattle.index.specs.Refusal.{number_of}
use Rattle.updating.specs.declared.Changed.{Changed}
use Rattle.calls.specs.Calls.{Insert, insert, Answer, refused, inserted}
use Rattle.calls.specs.Outputs.{Outputs}
use Rattle.calls.specs.Runs.{Meets}
use Rattle.index.specs.Run.{changing}
use Rattle.updating.specs.declared.inserting.Inserting as lent

-- ---- the run, and what `insert` promises

abbrev pub inserting : List ℕ → List ℕ → ℕ → Insert
inserting bytes numbers beam = record { bytes = bytes; numbers = numbers; beam = beam }

-- as the code has it
abbrev pub inserting_of : lent.Inserting → Insert
inserting_of a = inserting a.bytes.now a.numbers.now a.beam

-- the list that an insert is lent
abbrev pub insert_outputs : List ℕ → Outputs
insert_outputs slots = record { slots = slots; dists = []; numbers = []; stats = []; checked = []; lost = [] }

unfoldable pub inserted_as : Result Changed Refusal → List ℕ → Answer
inserted_as (Err e) ss = refused (number_of e)
inserted_as (Ok c) ss = inserted ss

-- the index by value that the app has then: the one that it had, or the new one
unfoldable pub index_after : Index → Result Changed Refusal → Index
index_after index (Err e) = index
index_after index (Ok c) = c.index

-- what is left has a prime; the code answers the new index and how many slots are filled
pub record Inserts (index : Index) (s : Slices) (a : Insert) (outputs : Outputs) (scratch : List ℕ) (s' : Slices) (outputs' : Outputs) (scratch' : List ℕ) (r : Result Changed Refusal) : Type 0 where
  pub filled : List ℕ
  pub counts : (c : Changed) → r ≡ Ok c → c.count ≡ length filled
  pub meets : Meets (changing index s (insert a) outputs scratch (index_after index r) s' outputs' scratch' (inserted_as r filled))
