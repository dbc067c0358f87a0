-- The distance of two vectors: document 01, "Grey values and distance", with document 02's weights (E3). A vector is the list of its bytes (document 01: grey
-- values). Assumes nothing.
use Rattle.std.specs.Prelude.{ℕ, ◌+◌, ◌-◌, ◌*◌, List, [], ◌∷◌, pos, Float}
use Rattle.std.specs.Float.{binary32}
use Rattle.std.specs.Float.Ieee.{of_int}

-- of x - y and y - x one is 0
unfoldable pub squared_difference : ℕ → ℕ → ℕ
squared_difference x y = let d = (x - y) + (y - x) in d * d

-- the sum of squared differences, each times the weight of its place; past the last weight each counts once
unfoldable pub distance : List ℕ → List ℕ → List ℕ → ℕ
distance ws [] ys = 0
distance ws (x ∷ xs) [] = 0
distance [] (x ∷ xs) (y ∷ ys) = squared_difference x y + distance [] xs ys
distance (w ∷ ws) (x ∷ xs) (y ∷ ys) = w * squared_difference x y + distance ws xs ys

-- document 01's, which has no weights: that of weights of 1 (`weighted_ones`)
unfoldable pub distance_plain : List ℕ → List ℕ → ℕ
distance_plain [] ys = 0
distance_plain (x ∷ xs) [] = 0
distance_plain (x ∷ xs) (y ∷ ys) = squared_difference x y + distance_plain xs ys

-- a whole number as an f32; exact up to 2 ^ 24
unfoldable pub f32 : ℕ → Float
f32 n = of_int binary32 (pos n)
