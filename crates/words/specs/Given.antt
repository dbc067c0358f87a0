-- What the functions for C promise: there is an answer of the call; where it is a refusal, the status returned is its number and nothing is written; else the
-- status is 0 and the answer's value is written. What is left has a prime. Assumes nothing.
use Rattle.std.specs.Prelude.{ℕ, ◌*◌, List, ◌≡◌, Float, length, take, drop, Result, Ok, Err}
use Rattle.slots.specs.Sizes.{Slices}
use Rattle.guard.specs.Guard.{Config}
use Rattle.admission.specs.declared.report.Report.{Report}
use Rattle.calls.specs.Calls.{Making, Search, Insert, Delete, Assess}
use Rattle.calls.specs.Outputs.{Outputs, written}
use Rattle.index.specs.declared.Index.{Index}
use Rattle.index.specs.declared.Refusal.{Refusal}
use Rattle.index.specs.Refusal.{number_of}
use Rattle.index.specs.Index.{sizes, words_for}
use Rattle.index.specs.Create.{Creates}
use Rattle.reading.specs.declared.Reading.{Reading}
use Rattle.reading.specs.declared.Reading.TheVariants.{Dim, Capacity, Degree, Alpha, Entry, Live, Mark, Version, Number as Figure, Target}
use Rattle.reading.specs.declared.Value.{Value}
use Rattle.reading.specs.declared.Value.TheVariants.{Number, Alpha as Factor, Version as Stamp}
use Rattle.reading.specs.Read.{Reads, ReadsVector}
use Rattle.reading.specs.Search.{Searches}
use Rattle.updating.specs.declared.Changed.{Changed}
use Rattle.updating.specs.Insert.{index_after, Inserts}
use Rattle.updating.specs.Delete.{deleted_as, index_left, Deletes}
use Rattle.guarding.specs.declared.Status.{Status}
use Rattle.guarding.specs.declared.Enabled.{Enabled}
use Rattle.guarding.specs.declared.Guarded.{Guarded}
use Rattle.guarding.specs.declared.Guarded.TheVariants.{Applied, Deferred}
use Rattle.guarding.specs.Guarded.{guarded_as, index_kept, Guards}
use Rattle.guarding.specs.Guarding.{status_of, Stands, enabled_index, Enables, Assesses}
use Rattle.words.specs.IndexWords.{index_of, words_of}
use Rattle.words.specs.GuardWords.{status_words, report_words}

-- ---- an answer for C

-- an answer with its value as f gives it
abbrev pub map_ok : {A B : Type 0} → (A → B) → Result A Refusal → Result B Refusal
map_ok f (Ok a) = Ok (f a)
map_ok f (Err e) = Err e

-- the status of an answer, and what is left where its value is to be written
abbrev pub put : {A : Type 0} → Result A Refusal → A → ℕ × A
put (Ok a) before = (0, a)
put (Err e) before = (number_of e, before)

-- ---- the size answer

-- what `finder_scratch_words` promises
pub record SizesScratch (dim capacity degree size size' status : ℕ) : Type 0 where
  pub told : (alpha : Float) → (status, size') ≡ put (words_for (sizes dim capacity degree alpha)) size

-- ---- making

-- what `finder_create` promises; the words that it leaves hold the new index
pub record CreatesWords (m : Making) (s s' : Slices) (words words' : List ℕ) (status : ℕ) : Type 0 where
  pub answer : Result Index Refusal
  pub does : Creates m s s' answer
  pub told : (status, words') ≡ put (map_ok words_of answer) words
  pub held : (i : Index) → answer ≡ Ok i → index_of words' ≡ i

-- ---- readings

-- the value that a number is: a version, or another one; alpha is not read so (`gives_number`)
unfoldable pub value_in : Reading → ℕ → Value
value_in Dim n = Number n
value_in Capacity n = Number n
value_in Degree n = Number n
value_in Alpha n = Number n
value_in Entry n = Number n
value_in Live n = Number n
value_in (Mark slot) n = Number n
value_in (Version slot) n = Stamp n
value_in (Figure slot) n = Number n
value_in (Target slot place) n = Number n

module _ (words : List ℕ) (s : Slices) where
  -- what a function promises that reads a number
  pub record ReadsNumber (q : Reading) (value value' status : ℕ) : Type 0 where
    pub answer : Result ℕ Refusal
    pub does : Reads (index_of words) s q (map_ok (value_in q) answer)
    pub told : (status, value') ≡ put answer value

  -- what `finder_alpha` promises
  pub record ReadsAlpha (value value' : Float) (status : ℕ) : Type 0 where
    pub answer : Result Float Refusal
    pub does : Reads (index_of words) s Alpha (map_ok Factor answer)
    pub told : (status, value') ≡ put answer value

  -- so many bytes from a slot's place on
  abbrev pub bytes_at : ℕ → ℕ → List ℕ
  bytes_at slot n = take n (drop (slot * (index_of words).dim) s.vectors)

  -- what `finder_vector` promises: the vector is that many bytes from the slot's place on, and they are there
  pub record ReadsLength (slot r : ℕ) : Type 0 where
    pub does : ReadsVector (index_of words) s slot (bytes_at slot r)
    pub there : r ≡ length (bytes_at slot r)

-- ---- search

-- what `finder_search` promises
pub record SearchesWords (words : List ℕ) (s : Slices) (a : Search) (outputs : Outputs) (scratch : List ℕ) (outputs' : Outputs) (scratch' : List ℕ) (found found' status : ℕ) : Type 0 where
  pub answer : Result ℕ Refusal
  pub does : Searches (index_of words) s a outputs scratch outputs' scratch' answer
  pub told : (status, found') ≡ put answer found

-- ---- insert and delete

-- what is written of an index that was changed: its words, and how many slots were filled or emptied
abbrev pub changed_words : Changed → List ℕ × ℕ
changed_words c = (words_of c.index, c.count)

-- what `finder_insert` promises; the words that it leaves hold the index that the app has then
pub record InsertsWords (words : List ℕ) (s : Slices) (a : Insert) (outputs : Outputs) (scratch words' : List ℕ) (s' : Slices) (outputs' : Outputs) (scratch' : List ℕ) (found found' status : ℕ) : Type 0 where
  pub answer : Result Changed Refusal
  pub does : Inserts (index_of words) s a outputs scratch s' outputs' scratch' answer
  pub told : (status, (words', found')) ≡ put (map_ok changed_words answer) (words, found)
  pub held : index_of words' ≡ index_after (index_of words) answer

-- what `finder_delete` promises; the words that it leaves hold the index that the app has then
pub record DeletesWords (words : List ℕ) (s : Slices) (a : Delete) (outputs : Outputs) (scratch words' : List ℕ) (s' : Slices) (outputs' : Outputs) (scratch' : List ℕ) (found found' status : ℕ) : Type 0 where
  pub answer : Result Changed Refusal
  pub does : Deletes (index_of words) s a (length outputs.stats) scratch s' scratch' answer
  pub told : (status, (words', found')) ≡ put (map_ok changed_words answer) (words, found)
  pub held : index_of words' ≡ index_left (index_of words) answer
  pub listed : outputs' ≡ written (deleted_as answer does.stats) outputs

-- ---- the guard

-- the words of the guard's status
abbrev pub standing_words : Status → List ℕ
standing_words s = status_words (status_of s)

-- what `finder_guard_status` promises
pub record StandsWords (words : List ℕ) (s : Slices) (place place' : List ℕ) (status : ℕ) : Type 0 where
  pub answer : Result Status Refusal
  pub does : Stands (index_of words) s answer
  pub told : (status, place') ≡ put (map_ok standing_words answer) place

-- the same, with the index's words
abbrev pub enabled_words : Enabled → List ℕ × List ℕ
enabled_words n = (words_of n.index, standing_words n.status)

-- what `finder_guard_enable` promises; the words that it leaves hold the index that the app has then
pub record EnablesWords (words : List ℕ) (s : Slices) (c : Config) (scratch : List ℕ) (words' : List ℕ) (s' : Slices) (scratch' place place' : List ℕ) (status : ℕ) : Type 0 where
  pub answer : Result Enabled Refusal
  pub does : Enables (index_of words) s c scratch s' scratch' answer
  pub told : (status, (words', place')) ≡ put (map_ok enabled_words answer) (words, place)
  pub held : index_of words' ≡ enabled_index (index_of words) answer

-- what `finder_assess` promises
pub record AssessesWords (words : List ℕ) (s : Slices) (a : Assess) (outputs : Outputs) (scratch : List ℕ) (outputs' : Outputs) (scratch' place place' : List ℕ) (status : ℕ) : Type 0 where
  pub answer : Result Report Refusal
  pub does : Assesses (index_of words) s a outputs scratch outputs' scratch' answer
  pub told : (status, place') ≡ put (map_ok report_words answer) place

-- what is left in the index's words, where the number of slots emptied is to be written, and where the report's numbers are; a delete that is deferred
-- empties none, and leaves the words
abbrev pub guarded_words : List ℕ → Guarded → List ℕ × ℕ × List ℕ
guarded_words words (Applied c v) = (words_of c.index, c.count, report_words v)
guarded_words words (Deferred v) = (words, 0, report_words v)

-- what `finder_guarded_delete` promises; the words that it leaves hold the index that the app has then
pub record GuardsWords (words : List ℕ) (s : Slices) (a : Delete) (outputs : Outputs) (scratch words' : List ℕ) (s' : Slices) (outputs' : Outputs) (scratch' : List ℕ) (found found' : ℕ) (place place' : List ℕ) (status : ℕ) : Type 0 where
  pub answer : Result Guarded Refusal
  pub does : Guards (index_of words) s a (length outputs.stats) outputs.checked outputs.lost scratch s' outputs'.checked outputs'.lost scratch' answer
  pub told : (status, (words', found', place')) ≡ put (map_ok (guarded_words words) answer) (words, found, place)
  pub held : index_of words' ≡ index_kept (index_of words) answer
  pub listed : outputs' ≡ written (guarded_as answer does.stats does.report) outputs
