-- The four running sums of a distance (document 02, E4). Assumes nothing.
use Rattle.std.specs.Prelude.{ℕ, zero, suc, ◌+◌, ◌*◌, ◌<◌, ◌≤◌, List, [], ◌∷◌, ◌≡◌, length, slice_index, drop}
use Rattle.vectors.specs.Distance.{squared_difference, distance}

-- the sum of the terms of places r, r + 4, r + 8 and on; a term is the distance's: past the last weight it counts once
unfoldable pub lane_sum : ℕ → List ℕ → List ℕ → List ℕ → ℕ
lane_sum r ws [] ys = 0
lane_sum r ws (x ∷ xs) [] = 0
lane_sum zero [] (x ∷ xs) (y ∷ ys) = squared_difference x y + lane_sum 3 [] xs ys
lane_sum zero (w ∷ ws) (x ∷ xs) (y ∷ ys) = w * squared_difference x y + lane_sum 3 ws xs ys
lane_sum (suc r) ws (x ∷ xs) (y ∷ ys) = lane_sum r (drop 1 ws) xs ys

-- what a function promises that gives four sums: each is its own lane's
pub record Lanes (weights a b sums : List ℕ) : Type 0 where
  pub long : length sums ≡ 4
  pub each : (r : ℕ) → r < 4 → slice_index sums r ≡ lane_sum r weights a b

-- ---- the claim

pub record FourSums : Type 0 where
  -- the first place of lane r is r, and the next is four on; a lane without a place sums 0
  pub lane_next : (r : ℕ) (ws a b : List ℕ) → length ws ≡ length a → length b ≡ length a → r < length a
      → lane_sum r ws a b ≡ slice_index ws r * squared_difference (slice_index a r) (slice_index b r) + lane_sum r (drop 4 ws) (drop 4 a) (drop 4 b)
  pub lane_empty : (r : ℕ) (ws a b : List ℕ) → length a ≤ r → lane_sum r ws a b ≡ 0
  -- the four together are the distance
  pub lanes_join : (ws a b : List ℕ) → (lane_sum 0 ws a b + lane_sum 1 ws a b) + (lane_sum 2 ws a b + lane_sum 3 ws a b) ≡ distance ws a b
