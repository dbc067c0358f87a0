-- Numbers that stand twice in a list, found part by part: each part's places are sorted by their numbers, and later places are looked up in it. Assumes nothing.
use Rattle.std.specs.Prelude.{ℕ, ◌+◌, ◌≤◌, ◌<◌, Option, Some, None, Bool, true, false, ◌≡◌, List, [], length, take, get_or}
use Rattle.lists.specs.Lists.{elem}
use Rattle.sorting.specs.Inner.Places.{key_at, Placed, Risen}
use Rattle.numbers.specs.Numbers.{taken}

-- the place of a key among the first n of an order
pub record Met (keys order : List ℕ) (n key : ℕ) (r : Option ℕ) : Type 0 where
  pub here : (i : ℕ) → r ≡ Some i → (i < n) × (key_at keys order i ≡ key)
  pub absent : r ≡ None → (i : ℕ) → i < n → key_at keys order i ≡ key → ⊥

-- the n places from a on, each once, by their numbers
pub record Chunk (given order : List ℕ) (a n : ℕ) : Type 0 where
  pub inside : a + n ≤ length given
  pub placed : Placed given order n
  pub risen : Risen given order n
  pub within : (i : ℕ) → i < n → (a ≤ get_or order i 0) × (get_or order i 0 < a + n)
  pub every : (p : ℕ) → a ≤ p → p < a + n → elem p (take n order) ≡ true
  pub apart : (i j : ℕ) → i < j → j < n → get_or order i 0 ≡ get_or order j 0 → ⊥

-- whether two of them have one number, or one has 0
pub record Sifted (given order : List ℕ) (n : ℕ) (r : Bool) : Type 0 where
  pub found : r ≡ true → taken [] given ≡ true
  pub above : r ≡ false → (i : ℕ) → i < n → 0 < key_at given order i
  pub up : r ≡ false → (i j : ℕ) → i < j → j < n → key_at given order i < key_at given order j

-- whether a later place has the number of one of them
pub record Later (given order : List ℕ) (a n : ℕ) (r : Bool) : Type 0 where
  pub found : r ≡ true → taken [] given ≡ true
  pub none_later : r ≡ false → (i j : ℕ) → i < n → a + n ≤ j → j < length given → key_at given order i ≡ get_or given j 0 → ⊥

-- whether one of the n places from a on has 0, or a number that stands later again
pub record Checked (given : List ℕ) (a n : ℕ) (r : Bool) : Type 0 where
  pub found : r ≡ true → taken [] given ≡ true
  pub above : r ≡ false → (p : ℕ) → a ≤ p → p < a + n → get_or given p 0 ≡ 0 → ⊥
  pub once : r ≡ false → (p j : ℕ) → a ≤ p → p < a + n → p < j → j < length given → get_or given p 0 ≡ get_or given j 0 → ⊥
