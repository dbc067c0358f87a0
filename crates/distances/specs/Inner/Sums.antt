-- Sums of weighted squared differences, lane by lane. Assumes nothing.
use Rattle.std.specs.Prelude.{ℕ, ◌+◌, ◌-◌, ◌*◌, ◌≤◌, ◌<◌, Bool, true, List, ◌≡◌, length, drop, slice_index}
use Rattle.lists.specs.Lists.{sum}
use Rattle.vectors.specs.Distance.{squared_difference}
use Rattle.vectors.specs.Weights.{Weighing, Ones}
use Rattle.distances.specs.Lanes.{lane_sum}

-- weights and two vectors of one length; where `ones`, the weights are not read
pub record Sides (ones : Bool) (weights a b : List ℕ) : Type 0 where
  pub weighing : Weighing weights
  pub are_ones : ones ≡ true → Ones weights
  pub weights_long : length weights ≡ length a
  pub b_long : length b ≡ length a

-- the difference and the term of place i
abbrev pub difference : List ℕ → List ℕ → ℕ → ℕ
difference a b i = (slice_index a i - slice_index b i) + (slice_index b i - slice_index a i)

abbrev pub term : List ℕ → List ℕ → List ℕ → ℕ → ℕ
term weights a b i = slice_index weights i * squared_difference (slice_index a i) (slice_index b i)

-- v has n lanes, and lane k holds f k
pub record HasLanes (n : ℕ) (v : List ℕ) (f : ℕ → ℕ) : Type 0 where
  pub long : length v ≡ n
  pub each : (k : ℕ) → k < n → slice_index v k ≡ f k

-- of 16 lanes none is more than m
abbrev pub Most : ℕ → List ℕ → Type 0
Most m v = (k : ℕ) → k < 16 → slice_index v k ≤ m

-- p has lanes from, from + 1 and on of v, eight of them, and behind each the same lane of w
pub record Woven (v w : List ℕ) (from : ℕ) (p : List ℕ) : Type 0 where
  pub even : (k : ℕ) → k < 8 → slice_index p (2 * k) ≡ slice_index v (from + k)
  pub odd : (k : ℕ) → k < 8 → slice_index p (2 * k + 1) ≡ slice_index w (from + k)

-- of 8 pairs of lanes, what lane r of four adds up: pairs r and r + 4, each lane of x times the one of d
abbrev pub pair_terms : List ℕ → List ℕ → ℕ → ℕ
pair_terms x d r =
    let at : ℕ → ℕ = λ k. slice_index x k * slice_index d k in
    (at (2 * r) + at (2 * r + 1)) + (at (2 * (r + 4)) + at (2 * (r + 4) + 1))

-- of 16 places, what lane r of four adds up: each fourth square from r on, times its weight
abbrev pub lane_terms : List ℕ → List ℕ → ℕ → ℕ
lane_terms w d r =
    let at : ℕ → ℕ = λ k. slice_index w k * (slice_index d k * slice_index d k) in
    (at r + at (r + 4)) + (at (r + 8) + at (r + 12))

-- s is what lane r sums of n places from i on, where n is a multiple of four or reaches the end: with the lane's sum of what is behind them it is the lane's
-- sum from i on
pub record LaneSummed (weights a b : List ℕ) (i n r s : ℕ) : Type 0 where
  pub step : s + lane_sum r (drop (i + n) weights) (drop (i + n) a) (drop (i + n) b) ≡ lane_sum r (drop i weights) (drop i a) (drop i b)
  pub bound : s + 65025 * sum (drop (i + n) weights) ≤ 65025 * sum (drop i weights)

-- the four sums of n places from i on
pub record Summed (weights a b : List ℕ) (i n : ℕ) (v : List ℕ) : Type 0 where
  pub long : length v ≡ 4
  pub each : (r : ℕ) → r < 4 → LaneSummed weights a b i n r (slice_index v r)
