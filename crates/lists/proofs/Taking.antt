-- The first n elements of a list, from a place on. Assumes nothing.
use Prim.Native.Nat.{ℕ, ◌≤◌, ◌<◌}
use mathlib.Core.List.{List}
use lib.ListN.{length, take, get_or}
use lib.Seq.{get_or-take, length-take-le}
use Rattle.lists.specs.Lists.{All}
use Rattle.lists.proofs.Places.{all_at}

-- what holds of each of them holds at each of their places
pub taken_at : (P : ℕ → Type 0) (l : List ℕ) (n i : ℕ) → n ≤ length l → All P (take n l) → i < n → P (get_or l i 0)
taken_at P l n i h k j = rw (get_or-take n l i 0 j) at (all_at 0 P (take n l) k i (rw (length-take-le n l h) j))
