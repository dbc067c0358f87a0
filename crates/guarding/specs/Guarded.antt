-- What a guarded delete gives. What is left has a prime. Assumes nothing.
use Rattle.std.specs.Prelude.{ℕ, ◌+◌, ◌*◌, ◌≤◌, List, [], map, ◌≡◌, length, Result, Ok, Err}
use Rattle.lists.specs.Lists.{range}
use Rattle.slots.specs.Sizes.{Slices}
use Rattle.repair.specs.Delete.{Stats}
use Rattle.guard.specs.Guard as Guard
use Rattle.deletion.specs.Batch.{stats_at, stats_of}
use Rattle.admission.specs.declared.report.Report.{Report}
use Rattle.index.specs.declared.Index.{Index}
use Rattle.guarding.specs.declared.Guarded.{Guarded}
use Rattle.guarding.specs.declared.Guarded.TheVariants.{Applied, Deferred}
use Rattle.index.specs.declared.Refusal.{Refusal}
use Rattle.index.specs.Refusal.{number_of}
use Rattle.updating.specs.declared.Changed.{Changed}
use Rattle.calls.specs.Calls.{Delete, guarded_delete, Answer, refused, applied, deferred}
use Rattle.calls.specs.Outputs.{Outputs, written}
use Rattle.calls.specs.Runs.{Run, Meets}
use Rattle.index.specs.Run.{changing}
use Rattle.guarding.specs.Guarding.{numbers_of}

-- the three lists that a guarded delete is lent
abbrev pub guarded_outputs : List Stats → List ℕ → List ℕ → Outputs
guarded_outputs stats checked lost = record { slots = []; dists = []; numbers = []; stats = stats; checked = checked; lost = lost }

unfoldable pub guarded_as : Result Guarded Refusal → List Stats → Guard.Report → Answer
guarded_as (Err e) ts report = refused (number_of e)
guarded_as (Ok (Applied c v)) ts report = applied ts report
guarded_as (Ok (Deferred v)) ts report = deferred report

-- the index by value that the app has then: the one that it had, or the new one
unfoldable pub index_kept : Index → Result Guarded Refusal → Index
index_kept index (Err e) = index
index_kept index (Ok (Applied c v)) = c.index
index_kept index (Ok (Deferred v)) = index

-- the run of a caller who writes the stats to his list
abbrev pub guarded_run : Index → Slices → Delete → List Stats → List ℕ → List ℕ → List ℕ → Slices → List ℕ → List ℕ → List ℕ → Result Guarded Refusal → List Stats → Guard.Report → Run
guarded_run index s a before checked lost scratch s' checked' lost' scratch' r ts report =
    let answer = guarded_as r ts report in
    let outputs = guarded_outputs before checked lost in
    changing index s (guarded_delete a) outputs scratch (index_kept index r) s' (guarded_outputs (written answer outputs).stats checked' lost') scratch' answer

-- what `guarded_delete` promises. The code answers the report's numbers, and writes its lists; where the delete is applied it answers the new index and how
-- many slots are emptied too, and leaves their stats in the scratch. The call is that of a caller who then writes them to his list of so much room, whatever
-- it held.
pub record Guards (index : Index) (s : Slices) (a : Delete) (room : ℕ) (checked lost scratch : List ℕ) (s' : Slices) (checked' lost' scratch' : List ℕ) (r : Result Guarded Refusal) : Type 0 where
  pub report : Guard.Report
  pub stats : List Stats
  pub numbers_applied : (c : Changed) (v : Report) → r ≡ Ok (Applied c v) → v ≡ numbers_of report
  pub numbers_deferred : (v : Report) → r ≡ Ok (Deferred v) → v ≡ numbers_of report
  pub words : (c : Changed) (v : Report) → r ≡ Ok (Applied c v) → stats ≡ map (stats_of scratch' (stats_at index.capacity)) (range 0 c.count)
  pub there : (c : Changed) (v : Report) → r ≡ Ok (Applied c v) → stats_at index.capacity + 4 * c.count ≤ length scratch'
  pub fits : (c : Changed) (v : Report) → r ≡ Ok (Applied c v) → c.count ≤ room
  pub meets : (before : List Stats) → length before ≡ room → Meets (guarded_run index s a before checked lost scratch s' checked' lost' scratch' r stats report)
