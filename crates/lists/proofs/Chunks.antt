-- The number that bounds `chunks` never cuts: a larger one changes nothing, and the chunks are the whole list. Assumes nothing.
use Prim.Native.Nat.{ℕ, zero, suc, ◌≤◌}
use mathlib.Core.Path.{◌≡◌, refl, ap, ◌∙◌}
use mathlib.Core.List.{List, [], ◌∷◌, ◌++◌}
use native.Mathlib.Omega.{arith}
use lib.ListN.{length, take, drop, length-drop, take-append-drop}
use Rattle.lists.specs.Lists.{chunks, concat_map}

module _ {A : Type 0} (n : ℕ) (h : 1 ≤ n) where
  -- what is left after a chunk is shorter
  shorter : (x : A) (xs : List A) (k : ℕ) → length (x ∷ xs) ≤ suc k → length (drop n (x ∷ xs)) ≤ k
  shorter x xs k l = simp length-drop (omega arith)

  pub chunks_enough : (j k : ℕ) (xs : List A) → length xs ≤ k → k ≤ j → chunks j n xs ≡ chunks k n xs
  chunks_enough zero zero xs l m = refl
  chunks_enough zero (suc k) xs l m = absurd (omega arith)
  chunks_enough (suc j) zero [] l m = refl
  chunks_enough (suc j) zero (x ∷ xs) l m = absurd (omega arith)
  chunks_enough (suc j) (suc k) [] l m = refl
  chunks_enough (suc j) (suc k) (x ∷ xs) l m =
      ap (λ (r : List (List A)). take n (x ∷ xs) ∷ r) (chunks_enough j k (drop n (x ∷ xs)) (shorter x xs k l) (omega arith))

  pub chunks_whole : (k : ℕ) (xs : List A) → length xs ≤ k → concat_map (λ c. c) (chunks k n xs) ≡ xs
  chunks_whole zero [] l = refl
  chunks_whole zero (x ∷ xs) l = absurd (omega arith)
  chunks_whole (suc k) [] l = refl
  chunks_whole (suc k) (x ∷ xs) l =
      ap (λ (r : List A). take n (x ∷ xs) ++ r) (chunks_whole k (drop n (x ∷ xs)) (shorter x xs k l)) ∙ take-append-drop n (x ∷ xs)
