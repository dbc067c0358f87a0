-- The new index by value, and its numbers. Assumes nothing.
use Rattle.std.specs.Prelude.{None, ℕ, ◌-◌, ◌≤◌, Bool, false, List, [], ◌++◌, ◌≡◌, ltb, length, replicate}
use Rattle.numbers.specs.Numbers.{taken, summary_of}
use Rattle.index.specs.declared.Index.{Index}
use Rattle.index.specs.declared.making.Making.{Making}

-- the new index by value, of what making is given
abbrev pub fresh_index : Making → Index
fresh_index m = record { dim = m.dim; capacity = m.capacity; degree = m.degree; alpha = m.alpha; entry = m.entry; live = m.count; guard = None }

-- what making asks of the given numbers and of the two slices for them
pub record NumberRoom (given numbers summary : List ℕ) : Type 0 where
  pub room : length given ≤ length numbers
  pub long : length summary ≡ length numbers
  pub few : length numbers ≤ 65536
  pub free : taken [] given ≡ false

-- what it leaves in them, of n slots
pub record NewNumbers (given : List ℕ) (n : ℕ) (numbers summary : List ℕ) : Type 0 where
  pub numbers_new : numbers ≡ given ++ replicate (n - length given) 0
  pub summary_new : (live : ℕ → Bool) → ((s : ℕ) → live s ≡ ltb s (length given)) → summary ≡ summary_of live n numbers
