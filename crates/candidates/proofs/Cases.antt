-- Orders and quotients of small distances by computation. Assumes nothing.
use mathlib.Core.Path.{◌≡◌, refl}
use mathlib.Core.Bool.{true}
use mathlib.Core.List.{[], ◌∷◌}
use lib.Ieee.{lt, div, of_int, of_bits, binary32}
use Rattle.lists.specs.Lists.{sort_by}
use Rattle.candidates.specs.Candidates.{before, nearer, ids}
use Rattle.vectors.specs.Distance.{f32}
use Rattle.candidates.specs.Quotient.{largest, fmax, fmin, quotient}

-- 25/16 is exact, 1/3 is rounded
exact : quotient 25 16 ≡ of_bits binary32 0x3fc8_0000
unfolding quotient f32 div of_int of_bits
exact = refl

rounded : quotient 1 3 ≡ of_bits binary32 0x3eaa_aaab
unfolding quotient f32 div of_int of_bits
rounded = refl

-- a divisor of zero
zero_divisor : lt (f32 16777216) (quotient 0 0) ≡ true
unfolding quotient f32 largest lt of_int of_bits
zero_divisor = refl

larger : fmax (f32 3) (f32 5) ≡ f32 5
unfolding f32 lt of_int
larger = refl

smaller : fmin (f32 5) (f32 3) ≡ f32 3
unfolding f32 lt of_int
smaller = refl

-- by distance, then by slot; and by distance alone, equals as given
by_slot : ids (sort_by before (record { dist = 4; id = 7 } ∷ record { dist = 4; id = 2 } ∷ record { dist = 1; id = 9 } ∷ [])) ≡ 9 ∷ 2 ∷ 7 ∷ []
by_slot = refl

by_distance : ids (sort_by nearer (record { dist = 4; id = 7 } ∷ record { dist = 4; id = 2 } ∷ record { dist = 1; id = 9 } ∷ [])) ≡ 9 ∷ 7 ∷ 2 ∷ []
by_distance = refl
