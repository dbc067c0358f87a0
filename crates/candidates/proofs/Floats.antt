-- Distances as f32: whole numbers up to 2 ^ 24 are in the order of the numbers, each can be read back, and a quotient of two of them is above 1.0
-- exactly where the first is the larger or the second is zero. Assumes nothing.
use mathlib.Core.Path.{◌≡◌, refl, sym, ap, ◌∙◌, subst}
use mathlib.Core.Logic.{◌⊎◌, inl, inr}
use mathlib.Core.Bool.{Bool, true, false, ◌&&◌, ◌||◌, true≢false, and-true}
use Prim.Native.Nat.{ℕ, zero, suc, ◌*◌, ◌≤◌, ◌<◌}
use native.Mathlib.Nat.{lt_of_le_of_lt, le_of_eq, mul-one, mul_comm, mul_assoc, mul_left_comm, zero-lt-suc, mul-pos, lt_of_not-le, not-le_of_lt, le_antisymm, le_of_lt, eq-or-lt_of_le}
use native.Mathlib.Omega.{arith}
use lib.IntN.{pos, negsuc}
use lib.Dec.{T, ltb, leb, eqb, ltb→lt, lt→ltb, leb→le, le→leb, eqb→eq, eqb-suc-zero, lit<}
use lib.Ieee.{Float, inf, fin, Format, binary32, up, down, round, div, lt, le, eq, of_int, in_float, in_unsigned, to_unsigned, of_bits}
use lib.Ieee.Fits.{eq→eqb, down_pos}
use lib.Ieee.Exact.{HasValue}
use lib.Ieee.Back.{round_whole, unsigned_back}
use lib.Ieee.Order.{transfer, round_mono}
use lib.Ieee.Scale.{round_same}
use lib.Ieee.Positive.{first_pos, above, above_of_le}
use borrow.Author.Tests.{ne_eqb}
use Rattle.vectors.specs.Distance.{f32}
use Rattle.candidates.specs.Quotient.{largest, quotient}

-- so that the examples are checked first

-- ---- the constants
pub one_bits : f32 1 ≡ of_bits binary32 0x3f80_0000
unfolding f32 of_int of_bits
one_bits = refl

one_value : f32 1 ≡ fin false 1 (pos 0)
unfolding f32 of_int
one_value = refl

pub two_bits : f32 2 ≡ of_bits binary32 0x4000_0000
unfolding f32 of_int of_bits
two_bits = refl

pub largest_value : largest ≡ fin false 16777215 (pos 104)
unfolding largest of_bits
largest_value = refl

-- ---- tests
pub or_l : (a b : Bool) → T a → T (a || b)
or_l true b t = tt
or_l false b t = absurd t

pub or_r : (a b : Bool) → T b → T (a || b)
or_r true b t = tt
or_r false b t = t

-- two tests that pass together are equal
same_test : (p q : Bool) → (T p → T q) → (T q → T p) → p ≡ q
same_test true true f g = refl
same_test true false f g = absurd (f tt)
same_test false true f g = absurd (g tt)
same_test false false f g = refl

or_eq : (a b : ℕ) → (ltb a b || (eqb a b && true)) ≡ leb a b
or_eq a b =
    ap (λ (t : Bool). ltb a b || t) (and-true (eqb a b))
    ∙ same_test (ltb a b || eqb a b) (leb a b) (less (ltb a b) (eqb a b) (ltb→lt a b) (eqb→eq a b)) (λ t. either (eq-or-lt_of_le (leb→le a b t)))
  where
    less : (p q : Bool) → (T p → a < b) → (T q → a ≡ b) → T (p || q) → T (leb a b)
    less true q f g t = le→leb a b (le_of_lt (f tt))
    less false q f g t = le→leb a b (le_of_eq (g t))

    either : (a ≡ b) ⊎ (a < b) → T (ltb a b || eqb a b)
    either (inl e) = or_r (ltb a b) (eqb a b) (eq→eqb e)
    either (inr l) = or_l (ltb a b) (eqb a b) (lt→ltb a b l)

-- ---- the order of two values that are not negative is that of the fractions that they equal
pub lt_of_values : (x y : Float) (a c b d : ℕ) → 0 < c → 0 < d → HasValue x false a c → HasValue y false b d → lt x y ≡ ltb (a * d) (b * c)
unfolding lt
lt_of_values lib.Ieee.nan y a c b d C D p q = elim p [ ]
lt_of_values (inf _) y a c b d C D p q = elim p [ ]
lt_of_values (fin false m e) lib.Ieee.nan a c b d C D p q = elim q [ ]
lt_of_values (fin false m e) (inf _) a c b d C D p q = elim q [ ]
lt_of_values (fin true m e) y a c b d C D p q = absurd (true≢false p.0)
lt_of_values (fin false m e) (fin true n k) a c b d C D p q = absurd (true≢false q.0)
lt_of_values (fin false m e) (fin false n k) a c b d C D p q =
    same_test (ltb (m * up e * down k) (n * up k * down e)) (ltb (a * d) (b * c))
    (λ t. lt→ltb (a * d) (b * c) (lt_of_not-le (λ g. not-le_of_lt (ltb→lt (m * up e * down k) (n * up k * down e) t)
    (transfer (n * up k) (m * up e) (down k) (down e) b a d c D C q.1 p.1 g))))
    (λ t. lt→ltb (m * up e * down k) (n * up k * down e) (lt_of_not-le (λ g. not-le_of_lt (ltb→lt (a * d) (b * c) t)
    (transfer b a d c (n * up k) (m * up e) (down k) (down e) (down_pos k) (down_pos e) (sym q.1) (sym p.1) g))))

pub eq_of_values : (x y : Float) (a c b d : ℕ) → 0 < c → 0 < d → HasValue x false a c → HasValue y false b d → eq x y ≡ eqb (a * d) (b * c)
unfolding eq
eq_of_values lib.Ieee.nan y a c b d C D p q = elim p [ ]
eq_of_values (inf _) y a c b d C D p q = elim p [ ]
eq_of_values (fin false m e) lib.Ieee.nan a c b d C D p q = elim q [ ]
eq_of_values (fin false m e) (inf _) a c b d C D p q = elim q [ ]
eq_of_values (fin true m e) y a c b d C D p q = absurd (true≢false p.0)
eq_of_values (fin false m e) (fin true n k) a c b d C D p q = absurd (true≢false q.0)
eq_of_values (fin false m e) (fin false n k) a c b d C D p q =
    and-true (eqb (m * up e * down k) (n * up k * down e))
    ∙ same_test (eqb (m * up e * down k) (n * up k * down e)) (eqb (a * d) (b * c))
    (λ t. let g = eqb→eq (m * up e * down k) (n * up k * down e) t in
    eq→eqb (le_antisymm
    (transfer a b c d (m * up e) (n * up k) (down e) (down k) (down_pos e) (down_pos k) (sym p.1) (sym q.1) (le_of_eq g))
    (transfer b a d c (n * up k) (m * up e) (down k) (down e) (down_pos k) (down_pos e) (sym q.1) (sym p.1) (le_of_eq (sym g)))))
    (λ t. let g = eqb→eq (a * d) (b * c) t in
    eq→eqb (le_antisymm
    (transfer (m * up e) (n * up k) (down e) (down k) a b c d C D p.1 q.1 (le_of_eq g))
    (transfer (n * up k) (m * up e) (down k) (down e) b a d c D C q.1 p.1 (le_of_eq (sym g)))))

-- ---- whole numbers up to 2 ^ 24
pub f32_value : (n : ℕ) → n ≤ 16777216 → HasValue (f32 n) false n 1
unfolding f32 of_int
f32_value n h = round_whole binary32 false n h

module _ (a b : ℕ) (A : a ≤ 16777216) (B : b ≤ 16777216) where
  pub lt_f32 : lt (f32 a) (f32 b) ≡ ltb a b
  lt_f32 = rw (mul-one a, mul-one b) at (lt_of_values (f32 a) (f32 b) a 1 b 1 (lit< tt) (lit< tt) (f32_value a A) (f32_value b B))

  pub eq_f32 : eq (f32 a) (f32 b) ≡ eqb a b
  eq_f32 = rw (mul-one a, mul-one b) at (eq_of_values (f32 a) (f32 b) a 1 b 1 (lit< tt) (lit< tt) (f32_value a A) (f32_value b B))

-- a distance is a value of f32, and is read back as the same whole number
pub whole_in_float : (n : ℕ) → n ≤ 16777216 → T (in_float binary32 (pos n))
unfolding in_float
whole_in_float n h = le→leb n 16777216 h

pub whole_dist : (n : ℕ) → n ≤ 16777216 → T (in_unsigned binary32 32 (f32 n)) × (to_unsigned 32 (f32 n) ≡ n)
unfolding f32
whole_dist n h = unsigned_back binary32 32 n (whole_in_float n h) (lt_of_le_of_lt h (lit< tt))

-- ---- the quotient
cross : (X Y a b p q : ℕ) → X * 1 ≡ a * p → Y * 1 ≡ b * q → X * q * b ≡ a * (Y * p)
cross X Y a b p q h k =
    ap (λ (z : ℕ). z * q * b) (sym (mul-one X) ∙ h) ∙ (simp (mul_assoc, mul_comm, mul_left_comm)) ∙ ap (λ (z : ℕ). a * (z * p)) (sym (sym (mul-one Y) ∙ k))

div_of_values : (f : Format) (x y : Float) (a b : ℕ) → 0 < b → HasValue x false a 1 → HasValue y false b 1 → div f x y ≡ round f false a b
unfolding div
div_of_values f lib.Ieee.nan y a b B p q = elim p [ ]
div_of_values f (inf _) y a b B p q = elim p [ ]
div_of_values f (fin false m e) lib.Ieee.nan a b B p q = elim q [ ]
div_of_values f (fin false m e) (inf _) a b B p q = elim q [ ]
div_of_values f (fin true m e) y a b B p q = absurd (true≢false p.0)
div_of_values f (fin false m e) (fin true n k) a b B p q = absurd (true≢false q.0)
div_of_values f (fin false m e) (fin false n k) a b B p q =
    let N : 0 < n * up k = subst (λ (z : ℕ). 0 < z) (sym (sym (mul-one (n * up k)) ∙ q.1)) (mul-pos B (down_pos k)) in
    rw (ne_eqb n 0 (λ i. omega (arith, first_pos n (up k) N)))
    (round_same f false (m * up e * down k) (n * up k * down e) a b (mul-pos N (down_pos e)) B (cross (m * up e) (n * up k) a b (down e) (down k) p.1 q.1))

pub quotient_whole : (a b : ℕ) → a ≤ 16777216 → suc b ≤ 16777216 → quotient a (suc b) ≡ round binary32 false a (suc b)
unfolding quotient
quotient_whole a b A B = div_of_values binary32 (f32 a) (f32 (suc b)) a (suc b) (zero-lt-suc b) (f32_value a A) (f32_value (suc b) B)

-- the least quotient above 1, (2 ^ 24) / (2 ^ 24 - 1), rounds to the value next above 1.0
one_rounds : round binary32 false 1 1 ≡ fin false 1 (pos 0)
unfolding round
one_rounds = refl

next_rounds : round binary32 false 16777216 16777215 ≡ fin false 8388609 (negsuc 22)
unfolding round
next_rounds = refl

step_up : (p q : ℕ) → 0 < p → 8388609 * 1 * p ≤ q * 8388608 → 1 * 1 * p < q * 1
step_up p q P h = omega arith

above_one_by : (y : Float) → T (le (fin false 8388609 (negsuc 22)) y) → T (above y) → T (lt (fin false 1 (pos 0)) y)
unfolding lt le
above_one_by lib.Ieee.nan t u = elim t [ ]
above_one_by (inf true) t u = elim t [ ]
above_one_by (fin true n k) t u = elim u [ ]
above_one_by (inf false) t u = tt
above_one_by (fin false n k) t u =
    lt→ltb (1 * 1 * down k) (n * up k * 1)
    (step_up (down k) (n * up k) (down_pos k) (leb→le (8388609 * 1 * down k) (n * up k * 8388608) (subst T (or_eq (8388609 * 1 * down k) (n * up k * 8388608)) t)))

above_one : (y : Float) → T (le (fin false 8388609 (negsuc 22)) y) → T (lt (fin false 1 (pos 0)) y)
above_one y t = above_one_by y t (above_of_le (fin false 8388609 (negsuc 22)) y tt t)

crossed : (p q : ℕ) → q * 1 ≤ 1 * 1 * p → 1 * 1 * p < q * 1 → ⊥
crossed p q h k = omega arith

not_above_one : (y : Float) → T (le y (fin false 1 (pos 0))) → T (lt (fin false 1 (pos 0)) y) → ⊥
unfolding lt le
not_above_one lib.Ieee.nan t u = elim t [ ]
not_above_one (inf true) t u = elim u [ ]
not_above_one (fin true n k) t u = elim u [ ]
not_above_one (inf false) t u = t
not_above_one (fin false n k) t u =
    crossed (down k) (n * up k) (leb→le (n * up k * 1) (1 * 1 * down k) (subst T (or_eq (n * up k * 1) (1 * 1 * down k)) t)) (ltb→lt (1 * 1 * down k) (n * up k * 1) u)

step_over : (a b : ℕ) → b < 16777216 → b < a → 16777216 * b ≤ a * 16777215
step_over a b B h = omega arith

-- For b below 2 ^ 24 a fraction a / b rounds to a value above 1.0 exactly where a is above b. At b = 2 ^ 24 it would not: (2 ^ 24 + 1) / 2 ^ 24 is a tie, which goes to 1.0.
round_above_one : (a b : ℕ) → 0 < b → b < 16777216 → lt (f32 1) (round binary32 false a b) ≡ ltb b a
round_above_one a b P B =
    rw one_value
    (same_test (lt (fin false 1 (pos 0)) (round binary32 false a b)) (ltb b a)
    (λ t. lt→ltb b a (lt_of_not-le (λ g. not_above_one (round binary32 false a b)
    (subst (λ (x : Float). T (le (round binary32 false a b) x)) one_rounds (round_mono binary32 a b 1 1 P (lit< tt) (omega arith))) t)))
    (λ t. above_one (round binary32 false a b)
    (subst (λ (x : Float). T (le x (round binary32 false a b))) next_rounds (round_mono binary32 16777216 16777215 a b (lit< tt) P (step_over a b B (ltb→lt b a t))))))

one_below_largest : lt (f32 1) largest ≡ true
unfolding lt largest of_bits f32 of_int
one_below_largest = refl

-- The test of a quotient against 1.0 is the test of the two distances as whole numbers; a divisor of zero counts as the smaller.
pub quotient_above_one : (a b : ℕ) → a ≤ 16777216 → b < 16777216 → lt (f32 1) (quotient a b) ≡ (eqb b 0 || ltb b a)
unfolding quotient
quotient_above_one a zero A B = one_below_largest
quotient_above_one a (suc b) A B = rw eqb-suc-zero (ap (lt (f32 1)) (quotient_whole a b A (le_of_lt B)) ∙ round_above_one a (suc b) (zero-lt-suc b) B)
