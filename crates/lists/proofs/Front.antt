-- A list whose first elements are replaced, one by one. Assumes nothing.
use Prim.Native.Nat.{◌<◌}
use mathlib.Core.Path.{◌≡◌, refl, ap}
use mathlib.Core.List.{List, [], ◌∷◌, ◌++◌, map, map-id}
use native.Mathlib.Omega.{arith}
use lib.ListN.{length, set}
use Rattle.lists.specs.Lists.{put_front}

-- one more
pub front_map : {A B : Type 0} (f : A → B) (xs : List A) (x : A) (l : List B) → length xs < length l
    → set (put_front (map f xs) l) (length xs) (f x) ≡ put_front (map f (xs ++ (x ∷ []))) l
front_map f xs x [] h = absurd (omega (arith, h))
front_map f [] x (y ∷ l) h = refl
front_map f (z ∷ xs) x (y ∷ l) h = ap (λ r. f z ∷ r) (front_map f xs x l (omega (arith, h)))

-- one more, as it is
pub front_snoc : {A : Type 0} (xs : List A) (x : A) (l : List A) → length xs < length l → set (put_front xs l) (length xs) x ≡ put_front (xs ++ (x ∷ [])) l
front_snoc {A} xs x l h = rw (map-id xs, map-id (xs ++ (x ∷ []))) at (front_map (λ (y : A). y) xs x l h)
