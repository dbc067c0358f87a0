-- What a reading gives. Assumes nothing.
use Rattle.std.specs.Prelude.{ℕ, ◌<◌, List, length, Result, Ok, Err}
use Rattle.std.specs.Borrow.{Bor}
use Rattle.vectors.specs.Vector.{VectorAt}
use Rattle.slots.specs.Sizes.{Slices}
use Rattle.index.specs.declared.Index.{Index}
use Rattle.reading.specs.declared.Reading.{Reading}
use Rattle.reading.specs.declared.Reading.TheVariants.{Dim, Capacity, Degree, Alpha, Entry, Live, Mark, Version, Number as Figure, Target}
use Rattle.reading.specs.declared.Value.{Value}
use Rattle.reading.specs.declared.Value.TheVariants.{Number, Alpha as Factor, Version as Stamp}
use Rattle.index.specs.declared.Refusal.{Refusal}
use Rattle.index.specs.Refusal.{number_of}
use Rattle.calls.specs.Calls.{read_dim, read_capacity, read_degree, read_alpha, read_entry, read_live, read_mark, read_version, read_number, read_target, read, read_vector, Answer, refused, number, alpha, version, vector}
use Rattle.calls.specs.Calls as Calls
use Rattle.calls.specs.Runs.{Run, Meets}
use Rattle.index.specs.Run as Run

unfoldable pub reading_of : Reading → Calls.Reading
reading_of Dim = read_dim
reading_of Capacity = read_capacity
reading_of Degree = read_degree
reading_of Alpha = read_alpha
reading_of Entry = read_entry
reading_of Live = read_live
reading_of (Mark s) = read_mark s
reading_of (Version s) = read_version s
reading_of (Figure s) = read_number s
reading_of (Target s place) = read_target s place

unfoldable pub answer_of : Result Value Refusal → Answer
answer_of (Err e) = refused (number_of e)
answer_of (Ok (Number n)) = number n
answer_of (Ok (Factor a)) = alpha a
answer_of (Ok (Stamp n)) = version n

-- ---- the runs, and what the calls promise

abbrev pub read_run : Index → Slices → Reading → Result Value Refusal → Run
read_run index s q r = Run.reading index s (read (reading_of q)) (answer_of r)

pub record Reads (index : Index) (s : Slices) (q : Reading) (r : Result Value Refusal) : Type 0 where
  pub meets : Meets (read_run index s q r)

abbrev pub read_vector_run : Index → Slices → ℕ → List ℕ → Run
read_vector_run index s slot part = Run.reading index s (read_vector slot) (vector part)

pub record ReadsVector (index : Index) (s : Slices) (slot : ℕ) (part : List ℕ) : Type 0 where
  pub meets : Meets (read_vector_run index s slot part)

-- what `read_vector` gives: the answer, and unless it is empty that part of the lent bytes
pub record GivesVector (index : Index) (s : Slices) (slot : ℕ) (vectors r : Bor (List ℕ)) : Type 0 where
  pub reads : ReadsVector index s slot r.now
  pub part : 0 < length r.now → VectorAt index.dim slot vectors r
