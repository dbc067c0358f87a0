-- What holds of each element of a list, or of each and every later one, and what the functions on lists keep of it. Assumes nothing.
use Prim.Native.Nat.{ℕ, zero, suc}
use mathlib.Core.Bool.{Bool, true, false, cond}
use mathlib.Core.Path.{◌≡◌, refl}
use mathlib.Core.List.{List, [], ◌∷◌, ◌++◌}
use mathlib.Core.Logic.{inl, inr}
use lib.ListN.{take, drop}
use Rattle.lists.specs.Lists.{All, In, filter, init, insert_by, sort_by, foldl}

-- what holds in both cases of a test
pub by_cases : {A : Type 0} (P : A → Type 0) (b : Bool) {x y : A} → (b ≡ true → P x) → (b ≡ false → P y) → P (cond b x y)
by_cases P true f g = f refl
by_cases P false f g = g refl

module _ {A : Type 0} where
  pub all_map : (P Q : A → Type 0) → ((x : A) → P x → Q x) → (xs : List A) → All P xs → All Q xs
  all_map P Q f [] h = tt
  all_map P Q f (x ∷ xs) h = (f x h.0, all_map P Q f xs h.1)

  pub all_both : (P Q : A → Type 0) (xs : List A) → All P xs → All Q xs → All (λ x. P x × Q x) xs
  all_both P Q [] h k = tt
  all_both P Q (x ∷ xs) h k = ((h.0, k.0), all_both P Q xs h.1 k.1)

  -- each element is one of them
  pub each_in : (xs : List A) → All (λ x. In x xs) xs
  each_in [] = tt
  each_in (x ∷ xs) = (inl refl, all_map (λ y. In y xs) (λ y. In y (x ∷ xs)) (λ y h. inr h) xs (each_in xs))

  -- what a filter leaves passes its test
  pub filter_test : (p : A → Bool) (xs : List A) → All (λ x. p x ≡ true) (filter p xs)
  filter_test p [] = tt
  filter_test p (x ∷ xs) = let rest = filter_test p xs in by_cases (All (λ y. p y ≡ true)) (p x) (λ e. (e, rest)) (λ e. rest)

module _ {A : Type 0} (P : A → Type 0) where
  pub all_of : ((x : A) → P x) → (xs : List A) → All P xs
  all_of f [] = tt
  all_of f (x ∷ xs) = (f x, all_of f xs)

  pub all_append : (xs ys : List A) → All P xs → All P ys → All P (xs ++ ys)
  all_append [] ys h k = k
  all_append (x ∷ xs) ys h k = (h.0, all_append xs ys h.1 k)

  pub all_take : (n : ℕ) (xs : List A) → All P xs → All P (take n xs)
  all_take zero xs h = tt
  all_take (suc n) [] h = tt
  all_take (suc n) (x ∷ xs) h = (h.0, all_take n xs h.1)

  pub all_drop : (n : ℕ) (xs : List A) → All P xs → All P (drop n xs)
  all_drop zero xs h = h
  all_drop (suc n) [] h = tt
  all_drop (suc n) (x ∷ xs) h = all_drop n xs h.1

  pub all_init : (xs : List A) → All P xs → All P (init xs)
  all_init [] h = tt
  all_init (x ∷ []) h = tt
  all_init (x ∷ y ∷ ys) h = (h.0, all_init (y ∷ ys) h.1)

  pub all_filter : (p : A → Bool) (xs : List A) → All P xs → All P (filter p xs)
  all_filter p [] h = tt
  all_filter p (x ∷ xs) h = let rest = all_filter p xs h.1 in by_cases (All P) (p x) (λ e. (h.0, rest)) (λ e. rest)

  pub all_insert : (before : A → A → Bool) (x : A) (xs : List A) → P x → All P xs → All P (insert_by before x xs)
  all_insert before x [] k h = (k, tt)
  all_insert before x (y ∷ ys) k h =
      let rest = all_insert before x ys k h.1 in
      by_cases (All P) (before y x) (λ e. (h.0, rest)) (λ e. (k, h))

  pub all_sort : (before : A → A → Bool) (xs : List A) → All P xs → All P (sort_by before xs)
  all_sort before [] h = tt
  all_sort before (x ∷ xs) h = all_insert before x (sort_by before xs) h.0 (all_sort before xs h.1)

  -- what each step of a fold keeps, the fold keeps
  pub foldl_keeps : {B : Type 0} (I : B → Type 0) (f : B → A → B) → ((b : B) (x : A) → P x → I b → I (f b x))
      → (xs : List A) → All P xs → (b : B) → I b → I (foldl f b xs)
  foldl_keeps I f step [] h b i = i
  foldl_keeps I f step (x ∷ xs) h b i = foldl_keeps I f step xs h.1 (f b x) (step b x h.0 i)
