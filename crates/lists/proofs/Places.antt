-- Elements by their place: what holds of each, of each pair and of those up to a place in an ordered list, the place at which an
-- element is inserted, and the last place. Assumes nothing.
use Prim.Native.Nat.{ℕ, zero, suc, ◌≤◌, ◌<◌}
use mathlib.Core.Bool.{Bool, true, false}
use mathlib.Core.Path.{◌≡◌, refl, ap}
use mathlib.Core.List.{List, [], ◌∷◌, ◌++◌}
use native.Mathlib.Decide.{dec_lt}
use native.Mathlib.Omega.{arith}
use lib.ListN.{length, take, drop, get_or}
use Rattle.lists.specs.Lists.{All, Pairwise, Ordered, insert_by, init, last}

module _ {A : Type 0} where
  pub init_snoc : (xs : List A) (x : A) → init (xs ++ (x ∷ [])) ≡ xs
  init_snoc [] x = refl
  init_snoc (y ∷ []) x = refl
  init_snoc (y ∷ z ∷ zs) x = ap (λ (ys : List A). y ∷ ys) (init_snoc (z ∷ zs) x)

  pub last_snoc : (d : A) (xs : List A) (x : A) → last d (xs ++ (x ∷ [])) ≡ x
  last_snoc d [] x = refl
  last_snoc d (y ∷ xs) x = last_snoc y xs x

module _ {A : Type 0} (d : A) where
  pub all_at : (P : A → Type 0) (xs : List A) → All P xs → (i : ℕ) → i < length xs → P (get_or xs i d)
  all_at P [] h i k = absurd (omega arith)
  all_at P (x ∷ xs) h zero k = h.0
  all_at P (x ∷ xs) h (suc i) k = all_at P xs h.1 i (omega arith)

  pub at_all : (P : A → Type 0) (xs : List A) → ((i : ℕ) → i < length xs → P (get_or xs i d)) → All P xs
  at_all P [] h = tt
  at_all P (x ∷ xs) h = (h 0 (omega arith), at_all P xs (λ i k. h (suc i) (omega arith)))

  pub pairwise_at : (R : A → A → Type 0) (xs : List A) → Pairwise R xs → (i j : ℕ) → i < j → j < length xs → R (get_or xs i d) (get_or xs j d)
  pairwise_at R [] h i j l k = absurd (omega arith)
  pairwise_at R (x ∷ xs) h i zero l k = absurd (omega arith)
  pairwise_at R (x ∷ xs) h zero (suc j) l k = all_at (R x) xs h.0 j (omega arith)
  pairwise_at R (x ∷ xs) h (suc i) (suc j) l k = pairwise_at R xs h.1 i j (omega arith) (omega arith)

  module _ (before : A → A → Bool) (x : A) where
    -- an element goes behind those that come before it, and in front of the next
    pub insert_at : (xs : List A) (r : ℕ) → r ≤ length xs → ((i : ℕ) → i < r → before (get_or xs i d) x ≡ true)
        → (r < length xs → before (get_or xs r d) x ≡ false) → insert_by before x xs ≡ take r xs ++ (x ∷ drop r xs)
    insert_at [] zero l low high = refl
    insert_at [] (suc r) l low high = absurd (omega arith)
    insert_at (y ∷ ys) zero l low high = rw (high (omega arith))
    insert_at (y ∷ ys) (suc r) l low high =
        rw (low 0 (omega arith)) (ap (λ (zs : List A). y ∷ zs) (insert_at ys r (omega arith) (λ i k. low (suc i) (omega arith)) (λ k. high (omega arith))))

    module _ (through : (a b c : A) → before a b ≡ true → before b c ≡ true → before a c ≡ true) (xs : List A) (o : Ordered before xs) (m : ℕ) (k : m < length xs) where
      -- if the element at m comes before x, so does each up to m
      pub up_to : before (get_or xs m d) x ≡ true → (i : ℕ) → i ≤ m → before (get_or xs i d) x ≡ true
      up_to e i l = go (dec_lt i m)
        where
          go : Dec (i < m) → before (get_or xs i d) x ≡ true
          go (yes h) = through (get_or xs i d) (get_or xs m d) x (pairwise_at (λ a b. before a b ≡ true) xs o i m h k) e
          go (no h) = let z : i ≡ m = omega arith in rw z e
