-- What the guard's calls give. What is left has a prime. Assumes nothing.
use Rattle.std.specs.Prelude.{ℕ, List, [], ◌≡◌, length, Result, Ok, Err}
use Rattle.slots.specs.Sizes.{Slices}
use Rattle.guard.specs.Guard.{Config}
use Rattle.guard.specs.Guard as Guards
use Rattle.guard.specs.Lent.{entry_of}
use Rattle.admission.specs.declared.report.Report.{Report}
use Rattle.index.specs.declared.Index.{Index}
use Rattle.guarding.specs.declared.Status.{Status}
use Rattle.guarding.specs.declared.Enabled.{Enabled}
use Rattle.index.specs.declared.Refusal.{Refusal}
use Rattle.index.specs.Refusal.{number_of}
use Rattle.calls.specs.Calls.{Assess, enable, status, assess, Answer, refused, standing, assessed}
use Rattle.calls.specs.Outputs.{Outputs, no_outputs}
use Rattle.calls.specs.Runs.{Run, Meets}
use Rattle.index.specs.Index.{state_of}
use Rattle.index.specs.Run.{looking, reading}

-- ---- the status

abbrev pub status_of : Status → Guards.Status
status_of s =
    record { enabled = s.enabled; pool_size = s.pool; live_landmarks = s.live; landmark_count = s.count; beam = s.beam }

unfoldable pub standing_as : Result Status Refusal → Answer
standing_as (Err e) = refused (number_of e)
standing_as (Ok s) = standing (status_of s)

-- what `guard_status` promises
pub record Stands (index : Index) (s : Slices) (r : Result Status Refusal) : Type 0 where
  pub meets : Meets (reading index s status (standing_as r))

-- ---- enabling

unfoldable pub enabled_as : Result Enabled Refusal → Answer
enabled_as (Err e) = refused (number_of e)
enabled_as (Ok n) = standing (status_of n.status)

-- the index that the app has then
unfoldable pub enabled_index : Index → Result Enabled Refusal → Index
enabled_index index (Err e) = index
enabled_index index (Ok n) = n.index

abbrev pub enable_run : Index → Slices → Config → List ℕ → Slices → List ℕ → Result Enabled Refusal → Run
enable_run index s c scratch s' scratch' r =
    record {
      operation = enable c;
      before = state_of index s;
      after = state_of (enabled_index index r) s';
      answer = enabled_as r;
      outputs_before = no_outputs;
      outputs_after = no_outputs;
      scratch_before = scratch;
      scratch_after = scratch';
    }

-- what `enable_guard` promises
pub record Enables (index : Index) (s : Slices) (c : Config) (scratch : List ℕ) (s' : Slices) (scratch' : List ℕ) (r : Result Enabled Refusal) : Type 0 where
  pub meets : Meets (enable_run index s c scratch s' scratch' r)

-- ---- assessing

abbrev pub assessing : List ℕ → Assess
assessing ids = record { ids = ids }

-- the two lists that an assessment is lent
abbrev pub report_outputs : List ℕ → List ℕ → Outputs
report_outputs checked lost = record { slots = []; dists = []; numbers = []; stats = []; checked = checked; lost = lost }

-- a report without its lists: how many they hold
abbrev pub numbers_of : Guards.Report → Report
numbers_of r =
    record {
      admitted = r.admitted;
      requested = r.requested;
      entry = entry_of r.entry;
      checked = length r.checked;
      baseline = r.baseline;
      residual = r.residual;
      lost = length r.lost;
      supplemental = r.supplemental;
    }

unfoldable pub assessed_as : Result Report Refusal → Guards.Report → Answer
assessed_as (Err e) report = refused (number_of e)
assessed_as (Ok r) report = assessed report

-- what `assess_delete` promises; the code answers the report's numbers, and writes its lists
pub record Assesses (index : Index) (s : Slices) (a : Assess) (outputs : Outputs) (scratch : List ℕ) (outputs' : Outputs) (scratch' : List ℕ) (r : Result Report Refusal) : Type 0 where
  pub report : Guards.Report
  pub numbers : (n : Report) → r ≡ Ok n → n ≡ numbers_of report
  pub meets : Meets (looking index s (assess a) outputs scratch outputs' scratch' (assessed_as r report))
