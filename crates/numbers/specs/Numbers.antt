-- Figure numbers and the summary: document 02, E1. A live slot carries a number above 0 that no other has, a dead slot holds 0; the code holds them in words
-- of 32 bits, so none is above 4,294,967,295. Assumes nothing.
use Rattle.std.specs.Prelude.{ℕ, suc, ◌-◌, ◌<◌, Bool, true, false, not, ◌&&◌, ◌||◌, cond, List, [], ◌∷◌, ◌++◌, map, ◌≡◌, length, take, drop, get_or, set, replicate, eqb, ltb}
use Rattle.lists.specs.Lists.{filter, range, elem, sort_by}
use Rattle.slots.specs.Store.{blank}

-- the number that a slot carries; 0 of a slot outside
abbrev pub number_of : List ℕ → ℕ → ℕ
number_of numbers s = get_or numbers s 0

-- ---- which numbers a call may bring: 15

-- a number is 0, held already, or twice in the list
abbrev pub taken : List ℕ → List ℕ → Bool
taken held [] = false
taken held (n ∷ ns) = eqb n 0 || elem n held || taken (n ∷ held) ns

-- ---- which slot a number names

-- the first place of n, counted from `from`; blank where it is not there
abbrev pub place_of : ℕ → ℕ → List ℕ → ℕ
place_of n from [] = blank
place_of n from (x ∷ xs) = cond (eqb n x) from (place_of n (suc from) xs)

-- the slot that carries a number; blank where none does, and 0 is no number
unfoldable pub slot_of : List ℕ → ℕ → ℕ
slot_of numbers n = cond (eqb n 0) blank (place_of n 0 numbers)

-- ---- what calls write

-- each of some slots gets its number
abbrev pub write_numbers : List ℕ → List ℕ → List ℕ → List ℕ
write_numbers (s ∷ ss) (n ∷ ns) numbers = write_numbers ss ns (set numbers s n)
write_numbers (s ∷ ss) [] numbers = numbers
write_numbers [] ns numbers = numbers

-- the numbers of n slots, of which the dead hold 0
unfoldable pub live_numbers : (ℕ → Bool) → ℕ → List ℕ → List ℕ
live_numbers live n numbers = map (λ s. cond (live s) (number_of numbers s) 0) (range 0 n)

-- slots by rising number
abbrev pub by_number : List ℕ → List ℕ → List ℕ
by_number numbers slots = sort_by (λ s t. ltb (number_of numbers s) (number_of numbers t)) slots

-- the summary of n slots: the live ones by rising number, then blanks
unfoldable pub summary_of : (ℕ → Bool) → ℕ → List ℕ → List ℕ
summary_of live n numbers = let slots = filter live (range 0 n) in by_number numbers slots ++ replicate (n - length slots) blank

-- ---- the rules, as 6 tests them

-- a slot's number is 0 exactly where it is dead
abbrev pub number_fits : (ℕ → Bool) → List ℕ → ℕ → Bool
number_fits live numbers s = cond (live s) (not (eqb (number_of numbers s) 0)) (eqb (number_of numbers s) 0)

abbrev pub numbers_fit : (ℕ → Bool) → List ℕ → List ℕ → Bool
numbers_fit live numbers [] = true
numbers_fit live numbers (s ∷ ss) = number_fits live numbers s && numbers_fit live numbers ss

-- slots inside, whose numbers rise from above `low`
abbrev pub rising : ℕ → List ℕ → ℕ → List ℕ → Bool
rising n numbers low [] = true
rising n numbers low (s ∷ ss) = ltb s n && ltb low (number_of numbers s) && rising n numbers (number_of numbers s) ss

abbrev pub all_blank : List ℕ → Bool
all_blank [] = true
all_blank (x ∷ xs) = eqb x blank && all_blank xs

-- of n slots, `count` of them live
unfoldable pub labels_ok : (ℕ → Bool) → ℕ → ℕ → List ℕ → List ℕ → Bool
labels_ok live n count numbers summary =
    numbers_fit live numbers (range 0 n) && rising n numbers 0 (take count summary) && all_blank (drop count summary)

-- ---- the rules, as document 02 has them

pub record Labelled (live : ℕ → Bool) (n : ℕ) (numbers summary : List ℕ) : Type 0 where
  pub above : (s : ℕ) → s < n → live s ≡ true → 0 < number_of numbers s
  pub dead : (s : ℕ) → s < n → live s ≡ false → number_of numbers s ≡ 0
  pub distinct : (s t : ℕ) → s < n → t < n → live s ≡ true → live t ≡ true → number_of numbers s ≡ number_of numbers t → s ≡ t
  pub listed : summary ≡ summary_of live n numbers
