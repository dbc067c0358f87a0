-- What numbers and summary are known to be where row 6 has passed, and what insert and delete leave of them. Assumes nothing.
use Rattle.std.specs.Prelude.{ℕ, ◌+◌, ◌≤◌, ◌<◌, Bool, true, false, ◌||◌, ◌≡◌, List, ltb, length, take}
use Rattle.lists.specs.Lists.{All, Pairwise, filter, range, elem}
use Rattle.sorting.specs.Inner.Places.{Placed, Risen}
use Rattle.slots.specs.Store.{is_valid}
use Rattle.numbers.specs.Numbers.{number_of, taken, write_numbers, live_numbers, summary_of, Labelled}

-- the first `live` words of the summary name every slot with a number, by rising number. `Labels` carries it; an insert, which writes both, asks it of what it is lent.
pub record Listed (numbers summary : List ℕ) (live : ℕ) : Type 0 where
  pub placed : Placed numbers summary live
  pub risen : Risen numbers summary live
  pub named : (s : ℕ) → s < length numbers → 0 < number_of numbers s → elem s (take live summary) ≡ true
  pub distinct : (s t : ℕ) → s < length numbers → t < length numbers → 0 < number_of numbers s → number_of numbers s ≡ number_of numbers t → s ≡ t
  pub few : length numbers ≤ 65536

-- ---- making

-- the first slots, which have distinct numbers
pub record Apart (numbers : List ℕ) (count : ℕ) : Type 0 where
  pub inside : count ≤ length numbers
  pub few : length numbers ≤ 65536
  pub distinct : (s t : ℕ) → s < count → t < count → number_of numbers s ≡ number_of numbers t → s ≡ t

-- the summary where they are the live ones
pub record Summarized (numbers : List ℕ) (count : ℕ) (summary : List ℕ) : Type 0 where
  pub listed : (live : ℕ → Bool) → ((s : ℕ) → s < length numbers → live s ≡ ltb s count) → summary ≡ summary_of live (length numbers) numbers

-- ---- insert

-- distinct dead slots that get numbers which none holds
pub record Inserting (live : ℕ → Bool) (n : ℕ) (numbers summary slots ns : List ℕ) : Type 0 where
  pub labelled : Labelled live n numbers summary
  pub long : length numbers ≡ n
  pub few : n ≤ 65536
  pub inside : All (λ s. s < n) slots
  pub dead : All (λ s. live s ≡ false) slots
  pub apart : Pairwise (λ s t. s ≡ t → ⊥) slots
  pub as_many : length ns ≡ length slots
  pub fresh : taken numbers ns ≡ false

-- what `enter` is given: new slots, and numbers in which the summary still rises
pub record Entering (numbers summary : List ℕ) (live : ℕ) (slots : List ℕ) : Type 0 where
  pub placed : Placed numbers summary live
  pub risen : Risen numbers summary live
  pub inside : All (λ s. s < length numbers) slots
  pub room : live + length slots ≤ length summary
  pub few : length summary ≤ 65536

pub record Entered (numbers summary : List ℕ) (live : ℕ) (slots summary' : List ℕ) : Type 0 where
  pub listed : (before after : ℕ → Bool) (old ns : List ℕ) → Inserting before (length numbers) old summary slots ns → numbers ≡ write_numbers slots ns old
      → live ≡ length (filter before (range 0 (length numbers))) → ((s : ℕ) → s < length numbers → after s ≡ (before s || elem s slots))
      → summary' ≡ summary_of after (length numbers) numbers

-- ---- delete

pub record Struck (marks numbers summary : List ℕ) (live : ℕ) (numbers' summary' : List ℕ) : Type 0 where
  pub zeroed : numbers' ≡ live_numbers (is_valid marks) (length marks) numbers
  pub listed : (before : ℕ → Bool) → Labelled before (length marks) numbers summary → live ≡ length (filter before (range 0 (length marks)))
      → ((s : ℕ) → s < length marks → is_valid marks s ≡ true → before s ≡ true) → summary' ≡ summary_of (is_valid marks) (length marks) numbers'

-- the live ones of the first `live` words of the summary, in their order, are its first r
pub record Packed (marks summary : List ℕ) (live r : ℕ) (summary' : List ℕ) : Type 0 where
  pub most : r ≤ live
  pub size : length summary' ≡ length summary
  pub front : take r summary' ≡ filter (is_valid marks) (take live summary)
