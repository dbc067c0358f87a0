-- `delete_batch` on lent slices, and its stats as words and as records: what is asked, and what is left. Assumes nothing.
use Rattle.std.specs.Prelude.{ℕ, ◌+◌, ◌*◌, ◌≤◌, ◌<◌, List, map, ◌≡◌, Float, length, get_or}
use Rattle.lists.specs.Lists.{range}
use Rattle.slots.specs.Scratch.{work_at}
use Rattle.slots.specs.View.{emptied}
use Rattle.slots.specs.Store.{Arrays, store_view, store_ops}
use Rattle.row.specs.Row.{Together, index_of}
use Rattle.repair.specs.Delete.{Stats, delete_batch}
use Rattle.deletion.specs.declared.stats.DeleteStats.{DeleteStats}

-- delete's share of the region `work` of the scratch: 256 slots of two words each, four counts and 640 words for the plan of each, and words for the links
-- of one plan
abbrev pub delete_words : ℕ → ℕ
delete_words degree = 167298 + 4 * degree

-- where the stats are left, four words for each slot emptied
abbrev pub stats_at : ℕ → ℕ
stats_at capacity = work_at capacity + 512

abbrev pub stats_of : List ℕ → ℕ → ℕ → Stats
stats_of words at j =
    record {
      outgoing_seeds = get_or words (at + 4 * j) 0;
      recovered_in_neighbors = get_or words (at + 4 * j + 1) 0;
      repair_candidates = get_or words (at + 4 * j + 2) 0;
      repair_edges_attempted = get_or words (at + 4 * j + 3) 0;
    }

-- slices within the limits, an entry inside, 256 ids at most, a repair beam and a repair degree within their limits, and scratch
pub record Deletable (a : Arrays) (entry repair_beam repair_degree : ℕ) (ids scratch : List ℕ) : Type 0 where
  pub together : Together a
  pub entry_in : entry < length a.marks
  pub ids_most : length ids ≤ 256
  pub beam_most : repair_beam ≤ 256
  pub degree_most : repair_degree ≤ 16
  pub enough : work_at (length a.marks) + delete_words a.degree ≤ length scratch

-- the index is that of `delete_batch`, with its entry; r slots are emptied, and their stats stand in the scratch
pub record BatchDeleted (a : Arrays) (alpha : Float) (entry repair_beam repair_degree : ℕ) (ids : List ℕ) (a' : Arrays) (entry' r : ℕ) (scratch' : List ℕ) : Type 0 where
  pub count : r ≡ length (emptied (store_view (index_of alpha entry a)) ids)
  pub few : r ≤ length ids
  pub does : delete_batch store_ops repair_beam repair_degree (index_of alpha entry a) ids
      ≡ (index_of alpha entry' a', map (stats_of scratch' (stats_at (length a.marks))) (range 0 r))

-- ---- the stats as records
-- the record that the four words from `at + 4 * j` on hold
abbrev pub record_of : List ℕ → ℕ → ℕ → DeleteStats
record_of words at j =
    record {
      outgoing_seeds = get_or words (at + 4 * j) 0;
      recovered_in_neighbors = get_or words (at + 4 * j + 1) 0;
      repair_candidates = get_or words (at + 4 * j + 2) 0;
      repair_edges_attempted = get_or words (at + 4 * j + 3) 0;
    }

-- the first n
abbrev pub records_of : List ℕ → ℕ → ℕ → List DeleteStats
records_of words at n = map (record_of words at) (range 0 n)

-- a record as the definition has it
abbrev pub stats_in : DeleteStats → Stats
stats_in s =
    record {
      outgoing_seeds = s.outgoing_seeds;
      recovered_in_neighbors = s.recovered_in_neighbors;
      repair_candidates = s.repair_candidates;
      repair_edges_attempted = s.repair_edges_attempted;
    }
