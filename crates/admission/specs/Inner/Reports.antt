-- The report by value, with its two lists in lent slices, and what the functions that make it ask and leave. Assumes nothing.
use Rattle.std.specs.Prelude.{ℕ, ◌-◌, ◌≤◌, ◌<◌, Bool, ◌&&◌, List, ◌++◌, ◌≡◌, eqb, ltb, length, take}
use Rattle.std.proofs.Math.Option.{some}
use Rattle.lists.specs.Lists.{All, filter, put_front}
use Rattle.vectors.specs.Vector.{Bytes}
use Rattle.slots.specs.Store.{Arrays, Store, store_view}
use Rattle.slots.specs.Inner.Rows.{RowShape}
use Rattle.guard.specs.Guard.{config, Report, assess_delete_admission}
use Rattle.guard.specs.Lent.{entry_of}
use Rattle.admission.specs.Inner.Pools.{guard_words}
use Rattle.admission.specs.Inner.Trials.{lost_of}
use Rattle.admission.specs.declared.report.Report as Value

-- of a pool the slots with `stays`, `count` at most, and others where these are fewer
abbrev pub kept_by : (ℕ → Bool) → ℕ → List ℕ → List ℕ
kept_by stays count pool = take count (filter stays pool)

abbrev pub others_by : (ℕ → Bool) → (ℕ → List ℕ → List ℕ) → ℕ → List ℕ → List ℕ
others_by stays select count pool = let kept = kept_by stays count pool in select (count - length kept) kept

-- `probe` at an entry, over tests of slots and landmarks and a choice of more landmarks instead of a view
unfoldable pub probe_by : (ℕ → Bool) → (ℕ → Bool) → (ℕ → Bool) → (ℕ → List ℕ → List ℕ) → ℕ → List ℕ → ℕ → ℕ → Report
probe_by stays before after select count pool requested entry =
    let others = others_by stays select count pool in
    let checked = kept_by stays count pool ++ others in
    let lost = lost_of before after checked in
    record {
      admitted = ltb 0 (length (filter before checked)) && eqb (length lost) 0;
      requested = requested;
      entry = some entry;
      checked = checked;
      baseline = length (filter before checked);
      residual = length (filter after checked);
      lost = lost;
      supplemental = length others;
    }

-- r is the report: its numbers, and its lists at the front of two lent ones
pub record Reports (report : Report) (checked checked' lost lost' : List ℕ) (r : Value.Report) : Type 0 where
  pub admits : r.admitted ≡ report.admitted
  pub requests : r.requested ≡ report.requested
  pub enters : r.entry ≡ entry_of report.entry
  pub checks : r.checked ≡ length report.checked
  pub meets_before : r.baseline ≡ report.baseline
  pub meets_after : r.residual ≡ report.residual
  pub loses : r.lost ≡ length report.lost
  pub adds : r.supplemental ≡ report.supplemental
  pub checked_list : checked' ≡ put_front report.checked checked
  pub lost_list : lost' ≡ put_front report.lost lost

-- what an assessment asks: slices that belong together, settings within their limits, lists of `count` places at least, and the guard's share of the
-- scratch; the pool and the ids may name any slots. Three contracts ask it, each handing it on: no type has it, since the index, its guard, the ids, the lists
-- and the scratch are lent apart
pub record Assessable (a : Arrays) (count sample beam : ℕ) (pool : List ℕ) (pooled : ℕ) (ids checked lost w : List ℕ) : Type 0 where
  pub bytes : Bytes a.dim (length a.marks) a.vectors
  pub rows : RowShape a.degree a.targets a.edges a.versions a.marks
  pub count_most : count ≤ 64
  pub sample_some : 0 < sample
  pub beam_most : beam ≤ 1024
  pub pool_long : pooled ≤ length pool
  pub ids_few : length ids ≤ 256
  pub checked_long : count ≤ length checked
  pub lost_long : count ≤ length lost
  pub room : guard_words (length a.marks) ≤ length w

-- what the choice of landmarks asks
pub record Checkable (slots entry count sample : ℕ) (checked w : List ℕ) : Type 0 where
  pub entry_inside : entry < slots
  pub count_most : count ≤ 64
  pub sample_some : 0 < sample
  pub checked_long : count ≤ length checked
  pub room : guard_words slots ≤ length w

-- the landmarks to check stand at the front of a list, n of them, and all are slots; the last `more` are others than the pool's
pub record Checks (slots : ℕ) (stays : ℕ → Bool) (select : ℕ → List ℕ → List ℕ) (count : ℕ) (pool checked checked' : List ℕ) (n more : ℕ) : Type 0 where
  pub list : checked' ≡ put_front (kept_by stays count pool ++ others_by stays select count pool) checked
  pub many : n ≡ length (kept_by stays count pool ++ others_by stays select count pool)
  pub added : more ≡ length (others_by stays select count pool)
  pub few : n ≤ count
  pub inside : All (λ s. s < slots) (kept_by stays count pool ++ others_by stays select count pool)

-- `assess_delete_admission`, whatever the multiplier
pub record Assessed (a : Arrays) (entry count sample beam : ℕ) (pool ids checked checked' lost lost' : List ℕ) (r : Value.Report) : Type 0 where
  pub does : (b : Store) (multiplier : ℕ) → b.arrays ≡ a → b.capacity ≡ length a.marks → b.entry ≡ entry
      → Reports (assess_delete_admission (store_view b) (config count multiplier sample beam) pool ids) checked checked' lost lost' r
