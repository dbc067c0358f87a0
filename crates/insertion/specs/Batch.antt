-- `insert_batch` on lent slices: what it asks, and what it leaves. Assumes nothing.
use Rattle.std.specs.Prelude.{ℕ, ◌+◌, ◌*◌, ◌/◌, ◌≤◌, ◌<◌, List, map, ◌≡◌, Float, length, take}
use Rattle.lists.specs.Lists.{range, part, put_front}
use Rattle.slots.specs.Scratch.{work_at}
use Rattle.slots.specs.View.{free_slots}
use Rattle.slots.specs.Store.{Arrays, store_view, store_ops}
use Rattle.row.specs.Row.{Together, index_of}
use Rattle.insert.specs.Insert.{insert_batch}

-- insert's share of the region `work` of the scratch
abbrev pub insert_words : ℕ → ℕ
insert_words degree = 256 + 1540 * degree

-- slices within the limits, an entry inside, a beam within its limit, room for the numbers and as many free slots as vectors, and scratch
pub record Insertable (a : Arrays) (alpha : Float) (entry beam : ℕ) (bytes slots scratch : List ℕ) : Type 0 where
  pub together : Together a
  pub dim_least : 1 ≤ a.dim
  pub entry_in : entry < length a.marks
  pub beam_most : beam ≤ 1024
  pub room_in : length bytes / a.dim ≤ length slots
  pub free_in : length bytes / a.dim ≤ length (free_slots (store_view (index_of alpha entry a)))
  pub enough : work_at (length a.marks) + insert_words a.degree ≤ length scratch

-- the index is that of `insert_batch`, the numbers of the r slots filled stand at the front, and the places past them are as they were
pub record BatchInserted (a : Arrays) (alpha : Float) (entry beam : ℕ) (bytes slots : List ℕ) (a' : Arrays) (slots' : List ℕ) (r : ℕ) : Type 0 where
  pub count : r ≡ length bytes / a.dim
  pub index : index_of alpha entry a' ≡ insert_batch store_ops beam (index_of alpha entry a) (map (λ i. part a.dim i bytes) (range 0 (length bytes / a.dim)))
  pub numbers : slots' ≡ put_front (take r (free_slots (store_view (index_of alpha entry a)))) slots
