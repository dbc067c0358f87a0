-- Two functions that are equal on the elements of a list: what is made of the list with them is equal. Assumes nothing.
use Prim.Native.Nat.{ℕ}
use mathlib.Core.Bool.{Bool, true, false, cond}
use mathlib.Core.Path.{◌≡◌, refl, ap, ap₂, ◌∙◌}
use mathlib.Core.List.{List, [], ◌∷◌, map}
use lib.Dec.{ltb}
use Rattle.lists.specs.Lists.{All, filter, foldl, least_from, least_of}

module _ {A : Type 0} (P : A → Type 0) where
  pub map_equal : {B : Type 0} (f g : A → B) → ((x : A) → P x → f x ≡ g x) → (xs : List A) → All P xs → map f xs ≡ map g xs
  map_equal f g e [] h = refl
  map_equal f g e (x ∷ xs) h = ap₂ (λ y ys. y ∷ ys) (e x h.0) (map_equal f g e xs h.1)

  pub filter_equal : (p q : A → Bool) → ((x : A) → P x → p x ≡ q x) → (xs : List A) → All P xs → filter p xs ≡ filter q xs
  filter_equal p q e [] h = refl
  filter_equal p q e (x ∷ xs) h = ap₂ (λ (b : Bool) (rest : List A). cond b (x ∷ rest) rest) (e x h.0) (filter_equal p q e xs h.1)

  pub foldl_equal : {B : Type 0} (f g : B → A → B) → ((b : B) (x : A) → P x → f b x ≡ g b x) → (xs : List A) → All P xs → (b : B) → foldl f b xs ≡ foldl g b xs
  foldl_equal f g e [] h b = refl
  foldl_equal f g e (x ∷ xs) h b = ap (λ c. foldl f c xs) (e b x h.0) ∙ foldl_equal f g e xs h.1 (g b x)

  pub least_from_equal : (f g : A → ℕ) → ((x : A) → P x → f x ≡ g x) → (a : A) → P a → (xs : List A) → All P xs → least_from f a xs ≡ least_from g a xs
  least_from_equal f g e a k [] h = refl
  least_from_equal f g e a k (x ∷ xs) h =
      ap (λ y. least_from f y xs) (ap₂ (λ m n. cond (ltb m n) x a) (e x h.0) (e a k))
      ∙ least_from_equal f g e (cond (ltb (g x) (g a)) x a) (go (ltb (g x) (g a))) xs h.1
    where
      go : (b : Bool) → P (cond b x a)
      go true = h.0
      go false = k

  -- the least of them is one of them
  pub least_has : (m : A → ℕ) (a : A) (xs : List A) → P a → All P xs → P (least_from m a xs)
  least_has m a [] k h = k
  least_has m a (x ∷ xs) k h = least_has m (cond (ltb (m x) (m a)) x a) xs (go (ltb (m x) (m a))) h.1
    where
      go : (b : Bool) → P (cond b x a)
      go true = h.0
      go false = k

  pub least_of_equal : (f g : A → ℕ) → ((x : A) → P x → f x ≡ g x) → (xs : List A) → All P xs → least_of f xs ≡ least_of g xs
  least_of_equal f g e [] h = refl
  least_of_equal f g e (x ∷ xs) h = ap f (least_from_equal f g e x h.0 xs h.1) ∙ e (least_from g x xs) (least_has g x xs h.0 h.1)
