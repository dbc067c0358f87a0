-- Filters by their elements: how many they leave, one more element, and two tests that agree on a list. Assumes nothing.
use Prim.Native.Nat.{ℕ, ◌+◌}
use mathlib.Core.Bool.{Bool, true, false, not, ◌&&◌, ◌||◌, cond, true≢false}
use mathlib.Core.Path.{◌≡◌, refl, ap, sym, ◌∙◌}
use mathlib.Core.List.{List, [], ◌∷◌, ◌++◌}
use native.Mathlib.Omega.{arith}
use borrow.Author.Tests.{eqb-true, eq-eqb}
use lib.Dec.{eqb}
use lib.ListN.{length}
use Rattle.lists.specs.Lists.{All, filter, elem, times}
use Rattle.lists.proofs.Unique.{eqb_flip}

module _ {A : Type 0} where
  pub count_cons : (p : A → Bool) (x : A) (xs : List A) → length (filter p (x ∷ xs)) ≡ cond (p x) 1 0 + length (filter p xs)
  count_cons p x xs = go (p x)
    where
      go : (b : Bool) → length (cond b (x ∷ filter p xs) (filter p xs)) ≡ cond b 1 0 + length (filter p xs)
      go true = omega arith
      go false = omega arith

  -- each element has p, or has it not
  pub count_both : (p : A → Bool) (xs : List A) → length (filter p xs) + length (filter (λ x. not (p x)) xs) ≡ length xs
  count_both p [] = refl
  count_both p (x ∷ xs) = omega (arith, count_cons p x xs, count_cons (λ x. not (p x)) x xs, count_both p xs, one (p x))
    where
      one : (b : Bool) → cond b 1 0 + cond (not b) 1 0 ≡ 1
      one true = refl
      one false = refl

  pub filter_snoc : (p : A → Bool) (xs : List A) (y : A) → filter p (xs ++ (y ∷ [])) ≡ filter p xs ++ cond (p y) (y ∷ []) []
  filter_snoc p [] y = refl
  filter_snoc p (x ∷ xs) y = go (p x) (filter_snoc p xs y)
    where
      go : (b : Bool) → filter p (xs ++ (y ∷ [])) ≡ filter p xs ++ cond (p y) (y ∷ []) []
          → cond b (x ∷ filter p (xs ++ (y ∷ []))) (filter p (xs ++ (y ∷ []))) ≡ cond b (x ∷ filter p xs) (filter p xs) ++ cond (p y) (y ∷ []) []
      go true e = ap (λ (l : List A). x ∷ l) e
      go false e = e

  pub filter_among : (p q : A → Bool) (l : List A) → All (λ x. p x ≡ q x) l → filter p l ≡ filter q l
  filter_among p q [] h = refl
  filter_among p q (x ∷ l) h = rw (h.0, filter_among p q l h.1)

  -- a filter that all pass leaves all
  pub filter_all : (p : A → Bool) (l : List A) → All (λ x. p x ≡ true) l → filter p l ≡ l
  filter_all p [] h = refl
  filter_all p (x ∷ l) h = rw (h.0, filter_all p l h.1)

-- of those with p: all but e, and e as often as it stands there
pub count_without : (p : ℕ → Bool) (e : ℕ) → p e ≡ true → (xs : List ℕ) → length (filter p xs) ≡ length (filter (λ s. p s && not (eqb s e)) xs) + times e xs
count_without p e h [] = refl
count_without p e h (x ∷ xs) =
    omega (arith, count_cons p x xs, count_cons (λ s. p s && not (eqb s e)) x xs, count_without p e h xs, step (p x) (eqb e x) refl refl)
  where
    swap : (b : Bool) → eqb e x ≡ b → eqb x e ≡ b
    swap true g = eq-eqb x e (sym (eqb-true e x g))
    swap false g = eqb_flip e x g

    step : (b c : Bool) → p x ≡ b → eqb e x ≡ c → cond (p x) 1 0 ≡ cond (p x && not (eqb x e)) 1 0 + cond (eqb e x) 1 0
    step true true i g = rw (i, g, swap true g)
    step true false i g = rw (i, g, swap false g)
    step false true i g = let z : p x ≡ true = ap p (sym (eqb-true e x g)) ∙ h in rw (z, g, swap true g)
    step false false i g = rw (i, g)

-- what stands in a list stands among those with p exactly where it has p
pub elem_filtered : (p : ℕ → Bool) (t : ℕ) (xs : List ℕ) → elem t xs ≡ true → elem t (filter p xs) ≡ p t
elem_filtered p t [] h = absurd (true≢false (sym h))
elem_filtered p t (x ∷ xs) h = go (p x) (eqb t x) refl refl h (elem_filtered p t xs) (not_in xs)
  where
    not_in : (ys : List ℕ) → p t ≡ false → elem t (filter p ys) ≡ false
    not_in [] e = refl
    not_in (y ∷ ys) e = step (p y) (eqb t y) refl refl (not_in ys e)
      where
        step : (b c : Bool) → p y ≡ b → eqb t y ≡ c → elem t (filter p ys) ≡ false → elem t (cond b (y ∷ filter p ys) (filter p ys)) ≡ false
        step true true q g r = absurd (true≢false (sym q ∙ ap p (sym (eqb-true t y g)) ∙ e))
        step true false q g r = rw (g, r)
        step false c q g r = r

    go : (b c : Bool) → p x ≡ b → eqb t x ≡ c → (c || elem t xs) ≡ true → (elem t xs ≡ true → elem t (filter p xs) ≡ p t) → (p t ≡ false → elem t (filter p xs) ≡ false)
        → elem t (cond b (x ∷ filter p xs) (filter p xs)) ≡ p t
    go true true q g k r z = rw g (sym (ap p (eqb-true t x g) ∙ q))
    go true false q g k r z = rw g (r k)
    go false true q g k r z = let e : p t ≡ false = ap p (eqb-true t x g) ∙ q in z e ∙ sym e
    go false false q g k r z = r k
