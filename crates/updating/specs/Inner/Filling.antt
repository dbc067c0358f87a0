-- An insert's own tests, the index that it leaves by value, and its numbers. Assumes nothing.
use Rattle.std.specs.Prelude.{ℕ, ◌*◌, ◌/◌, ◌≤◌, ◌<◌, Bool, not, ◌&&◌, ◌||◌, cond, List, [], ◌∷◌, ◌≡◌, eqb, ltb, length, take}
use Rattle.lists.specs.Lists.{filter, range, elem}
use Rattle.slots.specs.Sizes.{Slices, limits}
use Rattle.slots.specs.Scratch.{size_answer}
use Rattle.slots.specs.Store.{is_valid}
use Rattle.numbers.specs.Numbers.{taken, write_numbers, summary_of}
use Rattle.numbers.specs.Inner.Listed.{Inserting}
use Rattle.calls.specs.Calls.{Insert}
use Rattle.calls.specs.Refusals.{Test}
use Rattle.index.specs.declared.Index.{Index}

-- 3, of the list for slots and of the numbers: too short for as many as vectors are given, or not one for each
abbrev pub insert_wrong : Index → Insert → ℕ → Bool
insert_wrong index a slots = let n = length a.bytes / index.dim in ltb slots n || not (eqb (length a.numbers) n)

-- 7 to 10, and 15
abbrev pub insert_tests : Index → Slices → Insert → ℕ → List Test
insert_tests index s a scratch =
    let n = length a.bytes / index.dim in
    (7, ltb limits.beam a.beam)
    ∷ (8, ltb scratch (size_answer index.capacity))
    ∷ (9, not (eqb (length a.bytes) (n * index.dim)))
    ∷ (10, ltb (length (filter (λ t. not (is_valid s.marks t)) (range 0 index.capacity))) n)
    ∷ (15, taken s.numbers a.numbers)
    ∷ []

-- the index that an insert of n vectors begins with: where no slot is live, slot 0 is the first that it fills
abbrev pub with_first_entry : Index → ℕ → Index
with_first_entry i n =
    record {
      dim = i.dim;
      capacity = i.capacity;
      degree = i.degree;
      alpha = i.alpha;
      entry = cond (eqb i.live 0 && not (eqb n 0)) 0 i.entry;
      live = i.live;
      guard = i.guard;
    }

-- another live count
abbrev pub with_live : Index → ℕ → Index
with_live i live =
    record { dim = i.dim; capacity = i.capacity; degree = i.degree; alpha = i.alpha; entry = i.entry; live = live; guard = i.guard }

-- slots that were dead, with a number for each, and a summary of the `live` others
pub record Labelable (numbers summary : List ℕ) (live : ℕ) (slots given : List ℕ) : Type 0 where
  pub before : ℕ → Bool
  pub inserting : Inserting before (length numbers) numbers summary (take (length given) slots) given
  pub many : live ≡ length (filter before (range 0 (length numbers)))
  pub long : length given ≤ length slots

-- they have their numbers, and stand in the summary
pub record Relabelled (numbers summary : List ℕ) (live : ℕ) (slots given numbers' summary' : List ℕ) : Type 0 where
  pub numbers_new : numbers' ≡ write_numbers (take (length given) slots) given numbers
  pub summary_new : (before after : ℕ → Bool) → Inserting before (length numbers) numbers summary (take (length given) slots) given
      → live ≡ length (filter before (range 0 (length numbers))) → ((s : ℕ) → s < length numbers → after s ≡ (before s || elem s (take (length given) slots)))
      → summary' ≡ summary_of after (length numbers) numbers'
