-- f32 numbers: their order with slots, and the quotient of two distances. Document 01, "Candidates and the walk" and
-- "Selections"; `Candidate` and `prune_scored` in the Rust. Assumes nothing.
use Rattle.std.specs.Prelude.{ℕ, zero, suc, Bool, cond, ◌&&◌, ◌||◌, ltb, Float}
use Rattle.vectors.specs.Distance.{f32}
use Rattle.std.specs.Float.{binary32}
use Rattle.std.specs.Float.Ieee.{div, lt, eq, of_bits}

-- the order of candidates whose distances are f32 numbers: that of the whole numbers up to 2 ^ 24 (`before_exact`)
unfoldable pub before_f32 : Float → ℕ → Float → ℕ → Bool
before_f32 x i y j = lt x y || eq x y && ltb i j

-- `f32::MAX`, the largest finite f32
unfoldable pub largest : Float
largest = of_bits binary32 0x7f7f_ffff

-- `f32::max` and `f32::min` where neither is a NaN
abbrev pub fmax : Float → Float → Float
fmax x y = cond (lt x y) y x

abbrev pub fmin : Float → Float → Float
fmin x y = cond (lt y x) y x

-- one distance over another: one f32 division; a zero divisor gives the largest
unfoldable pub quotient : ℕ → ℕ → Float
quotient own zero = largest
quotient own (suc pair) = div binary32 (f32 own) (f32 (suc pair))
