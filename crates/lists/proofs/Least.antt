-- The least measure of a list as a minimum, one element at a time: where an element stands, and whether it stands twice, makes no difference.
-- Assumes nothing.
use Prim.Native.Nat.{ℕ, min, ◌≤◌}
use mathlib.Core.Bool.{Bool, true, false, ◌||◌, cond, true≢false}
use mathlib.Core.Path.{◌≡◌, refl, ap, sym, ◌∙◌}
use mathlib.Core.List.{List, [], ◌∷◌, ◌++◌}
use native.Mathlib.Omega.{arith}
use borrow.Author.Tests.{ltb-true, ltb-false, eqb-true}
use lib.Dec.{eqb, ltb}
use Rattle.lists.specs.Lists.{elem, foldl, least_of}

module _ (m : ℕ → ℕ) where
  -- the least of k and the measures of a list
  abbrev pub least_with : ℕ → List ℕ → ℕ
  least_with k xs = foldl (λ j x. min j (m x)) k xs

  lesser : (x r : ℕ) → m (cond (ltb (m x) (m r)) x r) ≡ min (m r) (m x)
  lesser x r = go (ltb (m x) (m r)) refl
    where
      go : (b : Bool) → ltb (m x) (m r) ≡ b → m (cond b x r) ≡ min (m r) (m x)
      go true e = omega (arith, ltb-true (m x) (m r) e)
      go false e = omega (arith, ltb-false (m x) (m r) e)

  pub least_cons : (r : ℕ) (rs : List ℕ) → least_of m (r ∷ rs) ≡ least_with (m r) rs
  least_cons r [] = refl
  least_cons r (x ∷ rs) = least_cons (cond (ltb (m x) (m r)) x r) rs ∙ ap (λ (k : ℕ). least_with k rs) (lesser x r)

  pub least_min : (k j : ℕ) (xs : List ℕ) → least_with (min k j) xs ≡ min (least_with k xs) j
  least_min k j [] = refl
  least_min k j (x ∷ xs) =
      let e : min (min k j) (m x) ≡ min (min k (m x)) j = omega arith in
      ap (λ (i : ℕ). least_with i xs) e ∙ least_min (min k (m x)) j xs

  pub least_snoc : (k : ℕ) (xs : List ℕ) (e : ℕ) → least_with k (xs ++ (e ∷ [])) ≡ min (least_with k xs) (m e)
  least_snoc k [] e = refl
  least_snoc k (x ∷ xs) e = least_snoc (min k (m x)) xs e

  least_below : (k : ℕ) (xs : List ℕ) → least_with k xs ≤ k
  least_below k [] = omega arith
  least_below k (x ∷ xs) = omega (arith, least_below (min k (m x)) xs)

  least_elem : (e k : ℕ) (xs : List ℕ) → elem e xs ≡ true → least_with k xs ≤ m e
  least_elem e k [] h = absurd (true≢false (sym h))
  least_elem e k (x ∷ xs) h = go (eqb e x) refl h (least_elem e (min k (m x)) xs)
    where
      go : (b : Bool) → eqb e x ≡ b → (b || elem e xs) ≡ true → (elem e xs ≡ true → least_with (min k (m x)) xs ≤ m e) → least_with (min k (m x)) xs ≤ m e
      go true q g r = rw (eqb-true e x q) (omega (arith, least_below (min k (m x)) xs))
      go false q g r = r g

  -- an element of the list in front of it again
  pub least_again : (r : ℕ) (rs : List ℕ) (e : ℕ) → elem e (r ∷ rs) ≡ true → least_with (m r) rs ≡ least_with (min (m e) (m r)) rs
  least_again r rs e h =
      let z : min (m r) (m r) ≡ m r = omega arith in
      let l : least_with (m r) rs ≤ m e = rw z at (least_elem e (m r) (r ∷ rs) h) in
      let g : min (m e) (m r) ≡ min (m r) (m e) = omega arith in
      let k : least_with (m r) rs ≡ min (least_with (m r) rs) (m e) = omega arith in
      k ∙ sym (least_min (m r) (m e) rs) ∙ ap (λ (i : ℕ). least_with i rs) (sym g)

  -- an element behind a list, and in front of it
  pub least_behind : (r : ℕ) (rs : List ℕ) (e : ℕ) → least_with (m r) (rs ++ (e ∷ [])) ≡ least_with (min (m e) (m r)) rs
  least_behind r rs e =
      let g : min (m e) (m r) ≡ min (m r) (m e) = omega arith in
      least_snoc (m r) rs e ∙ sym (least_min (m r) (m e) rs) ∙ ap (λ (i : ℕ). least_with i rs) (sym g)
