-- Runs of the exported functions that work on an index: all of include/finder.h but `finder_version` and `finder_scratch_words`. Each has the contract that its function is
-- proved to meet (words/specs/Given.antt) and nothing else; what is left has a prime. Assumes nothing.
use Rattle.std.specs.Prelude.{ℕ, ◌*◌, List, [], map, Float, take, drop, get_or}
use Rattle.vectors.specs.Distance.{f32}
use Rattle.slots.specs.Sizes.{Slices}
use Rattle.calls.specs.Calls.{Making, read_dim, read_capacity, read_degree, read_alpha, read_entry, read_live, read_mark, read_version, read_number, read_target, Search, Insert, Delete, Operation, create, read, read_vector, search, insert, delete, Assess, enable, assess, guarded_delete}
use Rattle.guard.specs.Guard.{Config}
use Rattle.calls.specs.Calls as Calls
use Rattle.calls.specs.Outputs.{Outputs, no_outputs}
use Rattle.reading.specs.declared.Reading.TheVariants.{Dim, Capacity, Degree, Entry, Live, Mark, Version, Number, Target}
use Rattle.reading.specs.Search.{search_outputs}
use Rattle.updating.specs.Insert.{insert_outputs}
use Rattle.updating.specs.Delete.{stats_outputs}
use Rattle.deletion.specs.declared.stats.DeleteStats.{DeleteStats}
use Rattle.deletion.specs.Batch.{stats_in}
use Rattle.words.specs.Given.{CreatesWords, ReadsNumber, ReadsAlpha, ReadsLength, SearchesWords, InsertsWords, DeletesWords, StandsWords, EnablesWords, AssessesWords, GuardsWords}
use Rattle.guarding.specs.Guarding.{report_outputs}
use Rattle.guarding.specs.Guarded.{guarded_outputs}

-- an index as the app holds it: its twelve words and its nine slices
pub record Memory : Type 0 where
  pub words : List ℕ
  pub slices : Slices

-- so many bytes from a slot's place on
abbrev pub bytes_from : Memory → ℕ → ℕ → List ℕ
bytes_from a slot n = take n (drop (slot * get_or a.words 0 0) a.slices.vectors)

-- where an answer is written: `*value` or `*found`; the `*value` of `finder_alpha`; that of `finder_slot_version`; a vector's bytes, which are read where
-- they lie; the words of the guard's status or of a report's numbers; the output lists
pub record Places : Type 0 where
  pub value : ℕ
  pub alpha : Float
  pub version : ℕ
  pub bytes : List ℕ
  pub guard : List ℕ
  pub outputs : Outputs

abbrev pub places : ℕ → Float → ℕ → List ℕ → List ℕ → Outputs → Places
places value alpha version bytes guard outputs =
    record { value = value; alpha = alpha; version = version; bytes = bytes; guard = guard; outputs = outputs }

-- a function has only some of them: the others count as 0 or empty
abbrev pub nowhere : Places
nowhere = places 0 (f32 0) 0 [] [] no_outputs

abbrev pub in_value : ℕ → Places
in_value n = places n (f32 0) 0 [] [] no_outputs

abbrev pub in_alpha : Float → Places
in_alpha a = places 0 a 0 [] [] no_outputs

abbrev pub in_version : ℕ → Places
in_version n = places 0 (f32 0) n [] [] no_outputs

abbrev pub in_guard : List ℕ → Outputs → Places
in_guard l outputs = places 0 (f32 0) 0 [] l outputs

-- one run: what is asked, memory and scratch as they are lent and as they are left, what stands before and after where the answer is written, and the
-- number returned
pub record ExportedRun : Type 0 where
  pub operation : Operation
  pub lent : Memory
  pub left : Memory
  pub scratch : List ℕ
  pub scratch' : List ℕ
  pub before : Places
  pub after : Places
  pub returned : ℕ

abbrev pub making : Making → Memory → Memory → ℕ → ExportedRun
making m lent left status = record { operation = create m; lent = lent; left = left; scratch = []; scratch' = []; before = nowhere; after = nowhere; returned = status }

-- a run that may change the memory, and one that leaves it
abbrev pub changing : Operation → Memory → Memory → List ℕ → List ℕ → Places → Places → ℕ → ExportedRun
changing o lent left scratch scratch' before after returned =
    record { operation = o; lent = lent; left = left; scratch = scratch; scratch' = scratch'; before = before; after = after; returned = returned }

abbrev pub looking : Operation → Memory → List ℕ → List ℕ → Places → Places → ℕ → ExportedRun
looking o lent scratch scratch' before after returned = changing o lent lent scratch scratch' before after returned

abbrev pub number : Calls.Reading → Memory → ℕ → ℕ → ℕ → ExportedRun
number q lent value value' status = looking (read q) lent [] [] (in_value value) (in_value value') status

-- the runs of each function; those of `finder_delete_numbers` and `finder_guarded_delete_numbers`, whose delete names numbers, are `finder_delete` and
-- `finder_guarded_delete` too
pub data Exported : ExportedRun → Type 0 where
  finder_create : {m : Making} {lent left : Memory} {status : ℕ} → CreatesWords m lent.slices left.slices lent.words left.words status
      → Exported (making m lent left status)
  finder_dim : {lent : Memory} {value value' status : ℕ} → ReadsNumber lent.words lent.slices Dim value value' status
      → Exported (number read_dim lent value value' status)
  finder_capacity : {lent : Memory} {value value' status : ℕ} → ReadsNumber lent.words lent.slices Capacity value value' status
      → Exported (number read_capacity lent value value' status)
  finder_degree : {lent : Memory} {value value' status : ℕ} → ReadsNumber lent.words lent.slices Degree value value' status
      → Exported (number read_degree lent value value' status)
  finder_entry : {lent : Memory} {value value' status : ℕ} → ReadsNumber lent.words lent.slices Entry value value' status
      → Exported (number read_entry lent value value' status)
  finder_live : {lent : Memory} {value value' status : ℕ} → ReadsNumber lent.words lent.slices Live value value' status
      → Exported (number read_live lent value value' status)
  finder_mark : {lent : Memory} {slot value value' status : ℕ} → ReadsNumber lent.words lent.slices (Mark slot) value value' status
      → Exported (number (read_mark slot) lent value value' status)
  finder_slot_version : {lent : Memory} {slot value value' status : ℕ} → ReadsNumber lent.words lent.slices (Version slot) value value' status
      → Exported (looking (read (read_version slot)) lent [] [] (in_version value) (in_version value') status)
  finder_number : {lent : Memory} {slot value value' status : ℕ} → ReadsNumber lent.words lent.slices (Number slot) value value' status
      → Exported (number (read_number slot) lent value value' status)
  finder_target : {lent : Memory} {slot place value value' status : ℕ} → ReadsNumber lent.words lent.slices (Target slot place) value value' status
      → Exported (number (read_target slot place) lent value value' status)
  finder_alpha : {lent : Memory} {value value' : Float} {status : ℕ} → ReadsAlpha lent.words lent.slices value value' status
      → Exported (looking (read read_alpha) lent [] [] (in_alpha value) (in_alpha value') status)
  finder_vector : {lent : Memory} {slot n : ℕ} → ReadsLength lent.words lent.slices slot n
      → Exported (looking (read_vector slot) lent [] [] nowhere (places 0 (f32 0) 0 (bytes_from lent slot n) [] no_outputs) n)
  finder_search : {lent : Memory} {a : Search} {slots slots' : List ℕ} {dists dists' : List Float} {numbers numbers' : List ℕ} {scratch scratch' : List ℕ} {found found' status : ℕ}
      → SearchesWords lent.words lent.slices a (search_outputs slots dists numbers) scratch (search_outputs slots' dists' numbers') scratch' found found' status
      → Exported (looking (search a) lent scratch scratch' (places found (f32 0) 0 [] [] (search_outputs slots dists numbers)) (places found' (f32 0) 0 [] [] (search_outputs slots' dists' numbers')) status)
  finder_insert : {lent left : Memory} {a : Insert} {slots slots' scratch scratch' : List ℕ} {found found' status : ℕ}
      → InsertsWords lent.words lent.slices a (insert_outputs slots) scratch left.words left.slices (insert_outputs slots') scratch' found found' status
      → Exported (changing (insert a) lent left scratch scratch' (places found (f32 0) 0 [] [] (insert_outputs slots)) (places found' (f32 0) 0 [] [] (insert_outputs slots')) status)
  finder_delete : {lent left : Memory} {a : Delete} (stats stats' : List DeleteStats) {scratch scratch' : List ℕ} {found found' status : ℕ}
      → DeletesWords lent.words lent.slices a (stats_outputs (map stats_in stats)) scratch left.words left.slices (stats_outputs (map stats_in stats')) scratch' found found' status
      → Exported (changing (delete a) lent left scratch scratch' (places found (f32 0) 0 [] [] (stats_outputs (map stats_in stats))) (places found' (f32 0) 0 [] [] (stats_outputs (map stats_in stats'))) status)
  finder_guard_enable : {lent left : Memory} {c : Config} {scratch scratch' place place' : List ℕ} {status : ℕ}
      → EnablesWords lent.words lent.slices c scratch left.words left.slices scratch' place place' status
      → Exported (changing (enable c) lent left scratch scratch' (in_guard place no_outputs) (in_guard place' no_outputs) status)
  finder_guard_status : {lent : Memory} {place place' : List ℕ} {status : ℕ} → StandsWords lent.words lent.slices place place' status
      → Exported (looking Calls.status lent [] [] (in_guard place no_outputs) (in_guard place' no_outputs) status)
  finder_assess : {lent : Memory} {a : Assess} {checked checked' lost lost' scratch scratch' place place' : List ℕ} {status : ℕ}
      → AssessesWords lent.words lent.slices a (report_outputs checked lost) scratch (report_outputs checked' lost') scratch' place place' status
      → Exported (looking (assess a) lent scratch scratch' (in_guard place (report_outputs checked lost)) (in_guard place' (report_outputs checked' lost')) status)
  finder_guarded_delete : {lent left : Memory} {a : Delete} (stats stats' : List DeleteStats) {checked checked' lost lost' scratch scratch' place place' : List ℕ} {found found' status : ℕ}
      → GuardsWords lent.words lent.slices a (guarded_outputs (map stats_in stats) checked lost) scratch left.words left.slices (guarded_outputs (map stats_in stats') checked' lost') scratch' found found' place place' status
      → Exported (changing (guarded_delete a) lent left scratch scratch' (places found (f32 0) 0 [] place (guarded_outputs (map stats_in stats) checked lost)) (places found' (f32 0) 0 [] place' (guarded_outputs (map stats_in stats') checked' lost')) status)
