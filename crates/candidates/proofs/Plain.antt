-- The f32 values that are finite and not negative, `plain`: a quotient of two distances is one, their order is that of fractions, and the larger of
-- two is above a bound exactly where one of them is. Assumes nothing.
use mathlib.Core.Path.{◌≡◌, refl, sym, ◌∙◌, subst}
use Prim.Native.Nat.{ℕ, zero, suc, ◌+◌, ◌*◌, ◌^◌, ◌≤◌, ◌<◌}
use native.Mathlib.Nat.{le_of_lt, not-le_of_lt, lt_of_not-le, zero-lt-suc}
use native.Mathlib.Omega.{arith}
use mathlib.Core.Bool.{Bool, true, false, cond, ◌||◌, true≢false}
use lib.IntN.{ℤ, pos}
use lib.Dec.{T, ltb, lit<}
use lib.Ieee.{Float, nan, inf, fin, Format, binary32, prec, emax, low, odd, units, round, lt, le, of_bits}
use lib.Ieee.Exact.{HasValue, odd_sign}
use lib.Ieee.Fits.{round_is}
use lib.Ieee.Order.{round_mono, kept, drop}
use lib.Ieee.Positive.{num, den, den_pos, positive, through}
use borrow.Author.Tests.{lt-ltb, le-ltb, ltb-true, ltb-false}
use Rattle.lists.proofs.All.{by_cases}
use Rattle.vectors.specs.Distance.{f32}
use Rattle.candidates.specs.Quotient.{largest, fmax, quotient}
use Rattle.candidates.proofs.Floats.{lt_of_values, f32_value, quotient_whole}

abbrev pub plain : Float → Bool
plain nan = false
plain (inf s) = false
plain (fin true m e) = false
plain (fin false m e) = true

value : (x : Float) → T (plain x) → HasValue x false (num x) (den x)
value nan p = elim p [ ]
value (inf _) p = elim p [ ]
value (fin true m e) p = elim p [ ]
value (fin false m e) p = (refl, refl)

plain_of_value : (x : Float) (a c : ℕ) → HasValue x false a c → T (plain x)
plain_of_value nan a c h = elim h [ ]
plain_of_value (inf _) a c h = elim h [ ]
plain_of_value (fin true m e) a c h = absurd (true≢false h.0)
plain_of_value (fin false m e) a c h = tt

pub plain_of_positive : (x : Float) → T (positive x) → T (plain x)
plain_of_positive nan p = elim p [ ]
plain_of_positive (inf _) p = elim p [ ]
plain_of_positive (fin true m e) p = elim p [ ]
plain_of_positive (fin false m e) p = tt

pub lt_plain : (x y : Float) → T (plain x) → T (plain y) → lt x y ≡ ltb (num x * den y) (num y * den x)
lt_plain x y p q = lt_of_values x y (num x) (den x) (num y) (den y) (den_pos x) (den_pos y) (value x p) (value y q)

module _ (t x y : Float) (pt : T (plain t)) (px : T (plain x)) (py : T (plain y)) where
  -- t < x and x ≤ y give t < y
  pub lt_le_trans : lt t x ≡ true → lt y x ≡ false → lt t y ≡ true
  lt_le_trans h k =
      lt_plain t y pt py
      ∙ lt-ltb (num t * den y) (num y * den t)
      (lt_of_not-le (λ g. not-le_of_lt (ltb-true (num t * den x) (num x * den t) (sym (lt_plain t x pt px) ∙ h))
      (through (num x) (num y) (num t) (den x) (den y) (den t) (den_pos y) (ltb-false (num y * den x) (num x * den y) (sym (lt_plain y x py px) ∙ k)) g)))

  lt_asym : lt x y ≡ true → lt y x ≡ false
  lt_asym h = lt_plain y x py px ∙ le-ltb (num y * den x) (num x * den y) (le_of_lt (ltb-true (num x * den y) (num y * den x) (sym (lt_plain x y px py) ∙ h)))

-- the larger of two is above t where one of them is
pub max_above : (t x y : Float) → T (plain t) → T (plain x) → T (plain y) → lt t (fmax x y) ≡ (lt t x || lt t y)
max_above t x y pt px py = go (lt x y) (lt t x) (lt t y) refl refl refl
  where
    go : (p q r : Bool) → lt x y ≡ p → lt t x ≡ q → lt t y ≡ r → lt t (cond p y x) ≡ (q || r)
    go true true r e f g = lt_le_trans t x y pt px py f (lt_asym t x y pt px py e)
    go true false r e f g = g
    go false true r e f g = f
    go false false true e f g = lt_le_trans t y x pt py px g e
    go false false false e f g = f

pub max_plain : (x y : Float) → T (plain x) → T (plain y) → T (plain (fmax x y))
max_plain x y px py = by_cases (λ (z : Float). T (plain z)) (lt x y) (λ e. py) (λ e. px)

-- ---- whole numbers and quotients are plain
pub f32_plain : (n : ℕ) → n ≤ 16777216 → T (plain (f32 n))
f32_plain n h = plain_of_value (f32 n) n 1 (f32_value n h)

pub largest_plain : T (plain largest)
unfolding largest of_bits
largest_plain = tt

units_plain : (f : Format) (q k m : ℕ) (e : ℤ) → T (le (units f false q k) (fin false m e)) → T (plain (units f false q k))
unfolding units le
units_plain f q k m e = go (ltb (q * 2 ^ k) (2 ^ (low f + suc (emax f))))
  where
    go : (b : Bool) → T (le (cond b (odd (suc (prec f)) false q k (low f)) (inf false)) (fin false m e)) → T (plain (cond b (odd (suc (prec f)) false q k (low f)) (inf false)))
    go true t = plain_of_value (odd (suc (prec f)) false q k (low f)) (q * 2 ^ k) (2 ^ low f) (odd_sign (suc (prec f)) false q k (low f))
    go false t = absurd t

most_rounds : round binary32 false 16777216 1 ≡ fin false 1 (pos 24)
unfolding round
most_rounds = refl

at_most : (a b : ℕ) → a ≤ 16777216 → 0 < b → a * 1 ≤ 16777216 * b
at_most a b A B = omega arith

round_plain : (a b : ℕ) → a ≤ 16777216 → 0 < b → T (plain (round binary32 false a b))
round_plain a b A B =
    let q = kept 24 (a * 2 ^ 149) b in
    let k = drop 24 (a * 2 ^ 149) b in
    let l : T (le (round binary32 false a b) (fin false 1 (pos 24))) = subst (λ (x : Float). T (le (round binary32 false a b) x)) most_rounds (round_mono binary32 a b 16777216 1 B (lit< tt) (at_most a b A B)) in
    rw (round_is binary32 false a b) (units_plain binary32 q k 1 (pos 24) (rw (round_is binary32 false a b) at l))

pub quotient_plain : (a b : ℕ) → a ≤ 16777216 → b ≤ 16777216 → T (plain (quotient a b))
unfolding quotient
quotient_plain a zero A B = largest_plain
quotient_plain a (suc b) A B = subst (λ (x : Float). T (plain x)) (sym (quotient_whole a b A B)) (round_plain a (suc b) A (zero-lt-suc b))
