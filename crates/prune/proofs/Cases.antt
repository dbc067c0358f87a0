-- Small selections by computation: slots on a line or in a plane, the source at slot 50, slot 59 dead. Assumes nothing.
use Prim.Native.Nat.{ℕ, ◌+◌, ◌-◌, ◌*◌, ◌/◌, ◌%◌}
use mathlib.Core.Path.{◌≡◌, refl}
use mathlib.Core.Bool.{Bool, not}
use mathlib.Core.List.{List, [], ◌∷◌}
use lib.Dec.{eqb}
use lib.Ieee.{Float, lt, le, mul, div, of_int, of_bits, binary32}
use Rattle.candidates.specs.Candidates.{scored, ids}
use Rattle.vectors.specs.Distance.{f32}
use Rattle.candidates.specs.Quotient.{largest, quotient}
use Rattle.prune.specs.Prune.{growth, thresholds_from, thresholds, raise, select, consider, pass, passes, considered, prune_scored}
use Rattle.prune.specs.RobustPrune.{Rules, stays, choose, remaining, run, robust_prune, paper, most_growth, grown, amended}

-- squared distances: of two slots as places on a line, and as points in a plane with their two digits as coordinates
abbrev line : ℕ → ℕ → ℕ
line a b = (a - b + (b - a)) * (a - b + (b - a))

abbrev plane : ℕ → ℕ → ℕ
plane a b = line (a / 10) (b / 10) + line (a % 10) (b % 10)

abbrev live : ℕ → Bool
live s = not (eqb s 59)

selection : ℕ → Float → (ℕ → ℕ → ℕ) → List ℕ → List ℕ
unfolding prune_scored considered passes pass consider select raise thresholds thresholds_from growth quotient f32 largest lt le div mul of_int of_bits
selection degree alpha d slots = ids (prune_scored degree alpha live d 50 (scored (d 50) slots))

robust : {T : Type 0} → Rules T → ℕ → (ℕ → ℕ → ℕ) → List ℕ → List ℕ
unfolding robust_prune run remaining choose stays paper amended most_growth grown quotient f32 largest lt le div mul of_int of_bits
robust rules R d slots = ids (robust_prune rules R d 50 (scored (d 50) slots))

-- ---- what is selected from
-- each slot's nearest, by distance
first_of_slot : considered live 50 (record { dist = 4; id = 52 } ∷ record { dist = 9; id = 51 } ∷ record { dist = 1; id = 51 } ∷ []) ≡ record { dist = 1; id = 51 } ∷ record { dist = 4; id = 52 } ∷ []
unfolding considered
first_of_slot = refl

-- neither the source nor a dead slot
source_and_dead : selection 4 (f32 1) line (50 ∷ 59 ∷ 60 ∷ []) ≡ 60 ∷ []
unfolding selection
source_and_dead = refl

-- at equal distances the order given
as_given : selection 4 (f32 1) line (51 ∷ 49 ∷ []) ≡ 51 ∷ 49 ∷ []
unfolding selection
as_given = refl

-- ---- one pass
-- 52 is nearer to 51 than to the source
nearest : selection 4 (f32 1) line (52 ∷ 49 ∷ 51 ∷ []) ≡ 49 ∷ 51 ∷ []
unfolding selection
nearest = refl

-- the degree is reached before 51
degree_reached : selection 1 (f32 1) line (49 ∷ 51 ∷ []) ≡ 49 ∷ []
unfolding selection
degree_reached = refl

-- 65 is as far from 70 as from the source: a factor of 1.0 is not above 1.0
equal_stays : selection 4 (f32 1) plane (70 ∷ 65 ∷ []) ≡ 70 ∷ 65 ∷ []
unfolding selection
equal_stays = refl

-- and 52 raises it further
equal_raised : selection 4 (f32 1) plane (70 ∷ 52 ∷ 65 ∷ []) ≡ 70 ∷ 52 ∷ []
unfolding selection
equal_raised = refl

-- 52 and 53 are at one place: the largest factor, above every threshold
zero_divisor : selection 4 (f32 2) (λ a b. line (a / 2) (b / 2)) (52 ∷ 53 ∷ []) ≡ 52 ∷ []
unfolding selection
zero_divisor = refl

-- ---- several passes
five : thresholds (f32 2) ≡ f32 1 ∷ growth ∷ of_bits binary32 0x3fb8_51ec ∷ of_bits binary32 0x3fdd_2f1c ∷ f32 2 ∷ []
unfolding thresholds thresholds_from growth f32 le lt mul of_int of_bits
five = refl

-- 62 has the factor 144/121, which the second pass of alpha 1.2 takes; 61 has 121/100
second_pass : selection 4 growth line (51 ∷ 62 ∷ []) ≡ 51 ∷ 62 ∷ []
unfolding selection
second_pass = refl

above_alpha : selection 4 growth line (51 ∷ 61 ∷ []) ≡ 51 ∷ []
unfolding selection
above_alpha = refl

-- 61 is taken at 1.44, and 54 with the factor 16/9 at 2.0
in_steps : selection 4 (f32 2) line (51 ∷ 54 ∷ 61 ∷ []) ≡ 51 ∷ 61 ∷ 54 ∷ []
unfolding selection
in_steps = refl

degree_reached_later : selection 2 (f32 2) line (51 ∷ 54 ∷ 61 ∷ []) ≡ 51 ∷ 61 ∷ []
unfolding selection
degree_reached_later = refl

-- 56 is taken before 55 and raises only what stands after it
only_after : selection 4 (f32 2) line (51 ∷ 55 ∷ 56 ∷ []) ≡ 51 ∷ 56 ∷ 55 ∷ []
unfolding selection
only_after = refl

-- 60 has the factor 100/49, above alpha and below 1.2 ^ 4
capped : selection 4 (f32 2) line (53 ∷ 60 ∷ []) ≡ 53 ∷ []
unfolding selection
capped = refl

-- ---- RobustPrune
-- in the paper p' leaves at equality
paper_equal : robust (paper 1 1) 4 plane (70 ∷ 65 ∷ []) ≡ 70 ∷ []
unfolding robust
paper_equal = refl

-- the nearest first, in whatever order C is; at α = 2 node 61 stays, since 2 · 100 is above 121
paper_two : robust (paper 2 1) 4 line (61 ∷ 52 ∷ 51 ∷ []) ≡ 51 ∷ 61 ∷ []
unfolding robust
paper_two = refl

paper_degree : robust (paper 1 1) 1 line (49 ∷ 51 ∷ []) ≡ 49 ∷ []
unfolding robust
paper_degree = refl

-- p itself is no candidate
paper_source : robust (paper 1 1) 4 line (51 ∷ 50 ∷ []) ≡ 51 ∷ []
unfolding robust
paper_source = refl

-- ours: neither the source nor a dead slot
amended_source_and_dead : robust (amended live (f32 1)) 4 line (50 ∷ 59 ∷ 60 ∷ []) ≡ 60 ∷ []
unfolding robust
amended_source_and_dead = refl

amended_capped : robust (amended live (f32 2)) 4 line (53 ∷ 60 ∷ []) ≡ 53 ∷ []
unfolding robust
amended_capped = refl

amended_equal : robust (amended live (f32 1)) 4 plane (70 ∷ 65 ∷ []) ≡ 70 ∷ 65 ∷ []
unfolding robust
amended_equal = refl

amended_in_steps : robust (amended live (f32 2)) 4 line (51 ∷ 54 ∷ 61 ∷ []) ≡ 51 ∷ 61 ∷ 54 ∷ []
unfolding robust
amended_in_steps = refl

amended_only_after : robust (amended live (f32 2)) 4 line (51 ∷ 55 ∷ 56 ∷ []) ≡ 51 ∷ 56 ∷ 55 ∷ []
unfolding robust
amended_only_after = refl

amended_degree : robust (amended live (f32 2)) 2 line (51 ∷ 54 ∷ 61 ∷ []) ≡ 51 ∷ 61 ∷ []
unfolding robust
amended_degree = refl
