-- How often a number stands in a list. Assumes nothing.
use Prim.Native.Nat.{ℕ, ◌+◌}
use mathlib.Core.Path.{◌≡◌, refl}
use mathlib.Core.List.{List, [], ◌∷◌, ◌++◌}
use native.Mathlib.Omega.{arith}
use borrow.Author.Tests.{eq-eqb}
use Rattle.lists.specs.Lists.{times}

pub times_append : (s : ℕ) (xs ys : List ℕ) → times s (xs ++ ys) ≡ times s xs + times s ys
times_append s [] ys = omega arith
times_append s (x ∷ xs) ys = omega (arith, times_append s xs ys)

pub once_more : (s : ℕ) (xs : List ℕ) → times s (s ∷ xs) ≡ 1 + times s xs
once_more s xs = rw (eq-eqb s s refl)
