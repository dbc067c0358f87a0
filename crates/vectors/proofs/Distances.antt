-- Laws of the distance. Assumes nothing.
use Prim.Native.Nat.{ℕ, zero, suc, ◌+◌, ◌-◌, ◌*◌, ◌≤◌, ◌<◌}
use mathlib.Core.Path.{◌≡◌, refl}
use mathlib.Core.List.{List, [], ◌∷◌}
use native.Mathlib.Nat.{mul-le-mul, add_comm}
use native.Mathlib.Numerals.{add-one}
use native.Mathlib.Omega.{arith}
use lib.ListN.{length, get_or, drop, length-take, length-drop}
use lib.Seq.{drop-cons}
use Rattle.lists.specs.Lists.{All, part, sum}
use Rattle.vectors.specs.Distance.{squared_difference, distance, distance_plain}
use Rattle.vectors.specs.Weights.{Ones}

-- ---- for the sums of the code

pub byte_square : {d : ℕ} → d < 256 → d * d ≤ 65025
byte_square {d} h = let l : d ≤ 255 = omega arith in mul-le-mul l l

pub square_of : (x y : ℕ) {d : ℕ} → d ≡ (x - y) + (y - x) → d * d ≡ squared_difference x y
unfolding squared_difference
square_of x y e = rw e

pub sum_step : (ws : List ℕ) (i : ℕ) → i < length ws → sum (drop i ws) ≡ get_or ws i 0 + sum (drop (i + 1) ws)
sum_step ws i h = rw (add-one, drop-cons ws i 0)

pub sum_drop : (ws : List ℕ) (i : ℕ) → sum (drop i ws) ≤ sum ws
sum_drop ws zero = omega arith
sum_drop [] (suc i) = omega arith
sum_drop (w ∷ ws) (suc i) = omega (arith, sum_drop ws i)

-- ---- weights: with weights of 1 the distance is the plain one

pub weighted_ones : (ws a b : List ℕ) → Ones ws → distance ws a b ≡ distance_plain a b
unfolding distance distance_plain
weighted_ones ws [] b o = refl
weighted_ones ws (x ∷ a) [] o = refl
weighted_ones [] (x ∷ a) (y ∷ b) o = rw (weighted_ones [] a b o)
weighted_ones (w ∷ ws) (x ∷ a) (y ∷ b) o =
    let e : w ≡ 1 = o 0 (omega arith) in
    rw (e, weighted_ones ws a b (λ i h. o (suc i) (omega arith))) (omega arith)

pub ones_measure : (ws : List ℕ) → Ones ws → distance ws ≡ distance_plain
ones_measure ws o = λ i a b. weighted_ones ws a b o i

-- ---- for the crates above

pub weighted_self : (ws a : List ℕ) → distance ws a a ≡ 0
unfolding distance squared_difference
weighted_self ws [] = refl
weighted_self [] (x ∷ a) = let z : (x - x) + (x - x) ≡ 0 = omega arith in rw z (omega (arith, weighted_self [] a))
weighted_self (w ∷ ws) (x ∷ a) = let z : (x - x) + (x - x) ≡ 0 = omega arith in rw z (omega (arith, weighted_self ws a))

pub weighted_sym : (ws a b : List ℕ) → distance ws a b ≡ distance ws b a
unfolding distance squared_difference
weighted_sym ws [] [] = refl
weighted_sym ws [] (y ∷ b) = refl
weighted_sym ws (x ∷ a) [] = refl
weighted_sym [] (x ∷ a) (y ∷ b) = rw (add_comm (x - y) (y - x), weighted_sym [] a b)
weighted_sym (w ∷ ws) (x ∷ a) (y ∷ b) = rw (add_comm (x - y) (y - x), weighted_sym ws a b)

-- the vector of a slot inside is dim long
pub length_part : (dim s : ℕ) (vectors : List ℕ) → s * dim + dim ≤ length vectors → length (part dim s vectors) ≡ dim
length_part dim s vectors h = simp (length-take, length-drop) (omega arith)

-- ---- bytes

pub square_small : (x y : ℕ) → x < 256 → y < 256 → squared_difference x y ≤ 65025
unfolding squared_difference
square_small x y h k = byte_square {d = (x - y) + (y - x)} (omega arith)

-- the distance of two vectors of bytes: with a sum of 256 at most 16,646,400
pub weighted_small : (ws a b : List ℕ) → length a ≤ length ws → All (λ x. x < 256) a → All (λ y. y < 256) b → distance ws a b ≤ 65025 * sum ws
unfolding distance
weighted_small ws [] b l h k = omega arith
weighted_small ws (x ∷ a) [] l h k = omega arith
weighted_small (w ∷ ws) (x ∷ a) (y ∷ b) l h k =
    let m : w * squared_difference x y ≤ w * 65025 = mul-le-mul (omega arith) (square_small x y h.0 k.0) in
    omega (arith, m, weighted_small ws a b (omega arith) h.1 k.1)
weighted_small [] (x ∷ a) (y ∷ b) l h k = omega (arith, l)
