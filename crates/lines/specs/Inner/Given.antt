-- Numbers that are read into an array.
use denote.Ref.{Bor}
use Rattle.std.specs.Prelude.{List, Option, ℕ, ◌≡◌, ◌≤◌, length, take, drop}
use Rattle.std.specs.List.{FoldsTo}
use Rattle.text.specs.Inner.Text.{Reads}

-- n numbers were read next of a line, and each gave a word at the start of an array; the words behind them stay
pub record Given {A : Type 0} (gives : ℕ → A → Type 0) (old new : Option (Bor (List ℕ))) (n : ℕ) (before after : List A) : Type 0 where
  pub room : n ≤ length before
  pub reads : FoldsTo (λ left word rest. (number : ℕ) × Reads left rest number × gives number word) old (take n after) new
  pub behind : drop n after ≡ drop n before
