-- The thresholds of an alpha from 1.0 to 2.0: the fifth pass has reached alpha, so that the bound of five never cuts; each threshold is at most alpha;
-- at alpha 1.0 there is one pass. Assumes nothing.
use mathlib.Core.Path.{◌≡◌, refl, sym, ap, ◌∙◌, subst}
use mathlib.Core.Bool.{Bool, true, false, cond, ◌&&◌, ◌||◌, true≢false}
use mathlib.Core.List.{List, [], ◌∷◌}
use Prim.Native.Nat.{ℕ, zero, suc, ◌+◌, ◌-◌, ◌*◌, ◌%◌, ◌^◌, ◌≤◌, ◌<◌}
use native.Mathlib.Nat.{le_refl, le_of_eq, mul-one, one-mul, mul_comm, mul_assoc, lt_of_lt_of_le, lt_of_not-le, not-le_of_lt, mul-lt-mul_of_pos_right, le_of_suc-le-suc}
use native.Mathlib.Omega.{arith}
use borrow.Author.Tests.{le-ltb, ltb-false}
use lib.IntN.{pos, negsuc}
use lib.Pow.{pow-add, pow_pos, pow_mono, pow-lt, shl_lt}
use lib.Dec.{T, ltb, leb, eqb, ltb→lt, leb→le, lit<}
use lib.ListN.{length}
use lib.Ieee.{Float, fin, Format, binary32, prec, emax, low, round, mul, lt, le, fits, of_bits, of_int}
use lib.Ieee.Digits.{back}
use lib.Ieee.Fits.{and_l, and_r, reach}
use lib.Ieee.Exact.{HasValue, round_exact}
use lib.Ieee.Order.{le_of_values}
use lib.Ieee.Positive.{num, den, den_pos, positive, own_value, mul_at, mul_mono, le→cross, cross→le, le_trans_positive, between}
use Rattle.lists.proofs.All.{by_cases}
use Rattle.vectors.specs.Distance.{f32}
use Rattle.candidates.specs.Quotient.{largest, fmin}
use Rattle.candidates.proofs.Floats.{f32_value, or_l, or_r}
use Rattle.candidates.proofs.Plain.{plain, plain_of_positive, largest_plain, lt_plain, lt_le_trans}
use Rattle.slots.specs.Sizes.{alpha_ok}
use Rattle.prune.specs.Prune.{growth, thresholds, thresholds_from}
-- so that the examples are checked first
use Rattle.lists.specs.Lists.{All}

-- ---- a value that fits is rounded to itself
pow_le_inv : (a b : ℕ) → 2 ^ a ≤ 2 ^ b → a ≤ b
pow_le_inv a b h = le_of_suc-le-suc (lt_of_not-le (λ (g : suc b ≤ a). not-le_of_lt (pow-lt g) h))

round_self : (f : Format) (x : Float) → T (positive x) → T (fits f x) → HasValue (round f false (num x) (den x)) false (num x) (den x)
unfolding fits
round_self f lib.Ieee.nan p t = elim p [ ]
round_self f (lib.Ieee.inf _) p t = elim p [ ]
round_self f (fin false zero _) p t = elim p [ ]
round_self f (fin true _ _) p t = elim p [ ]
round_self f (fin false (suc m) (pos k)) p t =
    let a : Bool = eqb (suc m % 2) 1 in
    let b : Bool = ltb (suc m) (2 ^ prec f) in
    let c : Bool = leb 1 (2 ^ low f) in
    let d : Bool = ltb (suc m * 2 ^ k) (2 ^ suc (emax f) * 1) in
    let small : suc m < 2 ^ prec f = ltb→lt (suc m) (2 ^ prec f) (and_r a b (and_l (a && b) c (and_l (a && b && c) d t))) in
    let top : suc m * 2 ^ k < 2 ^ suc (emax f) * 1 = ltb→lt (suc m * 2 ^ k) (2 ^ suc (emax f) * 1) (and_r (a && b && c) d t) in
    let e : suc m * 2 ^ k * 2 ^ low f ≡ suc m * 2 ^ (k + low f) = mul_assoc (suc m) (2 ^ k) (2 ^ low f) ∙ ap (λ (z : ℕ). suc m * z) (sym (pow-add 2 k (low f))) in
    let fine : suc m * 2 ^ (k + low f) < 2 ^ (low f + suc (emax f)) =
    subst (λ (z : ℕ). z < 2 ^ (low f + suc (emax f))) e
    (lt_of_lt_of_le (mul-lt-mul_of_pos_right top (pow_pos (low f)))
    (le_of_eq (ap (λ (z : ℕ). z * 2 ^ low f) (mul-one (2 ^ suc (emax f))) ∙ mul_comm (2 ^ suc (emax f)) (2 ^ low f) ∙ sym (pow-add 2 (low f) (suc (emax f)))))) in
    round_exact f false (suc m * 2 ^ k) 1 (suc m) (k + low f) (lit< tt) small fine (e ∙ sym (mul-one (suc m * 2 ^ (k + low f))))
round_self f (fin false (suc m) (negsuc k)) p t =
    let a : Bool = eqb (suc m % 2) 1 in
    let b : Bool = ltb (suc m) (2 ^ prec f) in
    let c : Bool = leb (2 ^ suc k) (2 ^ low f) in
    let d : Bool = ltb (suc m * 1) (2 ^ suc (emax f) * 2 ^ suc k) in
    let small : suc m < 2 ^ prec f = ltb→lt (suc m) (2 ^ prec f) (and_r a b (and_l (a && b) c (and_l (a && b && c) d t))) in
    let K : suc k ≤ low f = pow_le_inv (suc k) (low f) (leb→le (2 ^ suc k) (2 ^ low f) (and_r (a && b) c (and_l (a && b && c) d t))) in
    let j = low f - suc k in
    let e : suc m * 1 * 2 ^ low f ≡ suc m * 2 ^ j * 2 ^ suc k =
    ap (λ (z : ℕ). z * 2 ^ low f) (mul-one (suc m)) ∙ ap (λ (z : ℕ). suc m * z) (ap (λ (z : ℕ). 2 ^ z) (sym (back (low f) (suc k) K)) ∙ pow-add 2 j (suc k)) ∙ sym (mul_assoc (suc m) (2 ^ j) (2 ^ suc k)) in
    let fine : suc m * 2 ^ j < 2 ^ (low f + suc (emax f)) = lt_of_lt_of_le (shl_lt (prec f) j small) (pow_mono (fine_exp f j (low f) (emax f) (reach f) (less (low f) (suc k)))) in
    round_exact f false (suc m * 1) (2 ^ suc k) (suc m) j (pow_pos (suc k)) small fine e
  where
    less : (l k : ℕ) → l - k ≤ l
    less l k = omega arith

    fine_exp : (f : Format) (j l x : ℕ) → prec f ≤ suc x → j ≤ l → prec f + j ≤ l + suc x
    fine_exp f j l x h g = omega arith

-- ---- the constants
one_positive : T (positive (f32 1))
unfolding f32 of_int
one_positive = tt

two_positive : T (positive (f32 2))
unfolding f32 of_int
two_positive = tt

-- the constant is the decimal 1.2, rounded once
pub growth_value : growth ≡ round binary32 false 12 10
unfolding growth of_bits round
growth_value = refl

one_growth : T (le (f32 1) growth)
unfolding f32 of_int le growth of_bits
one_growth = tt

four_steps : mul binary32 (mul binary32 (mul binary32 (mul binary32 (f32 1) growth) growth) growth) growth ≡ fin false 4348655 (negsuc 20)
unfolding mul f32 of_int growth of_bits
four_steps = refl

two_below : T (le (f32 2) (fin false 4348655 (negsuc 20)))
unfolding le f32 of_int
two_below = tt

two_largest : lt (f32 2) largest ≡ true
unfolding lt f32 of_int largest of_bits
two_largest = refl

one_one : mul binary32 (f32 1) (f32 1) ≡ f32 1
unfolding mul f32 of_int
one_one = refl

four_positive : T (positive (f32 4))
unfolding f32 of_int
four_positive = tt

two_two : mul binary32 (f32 2) (f32 2) ≡ f32 4
unfolding mul f32 of_int
two_two = refl

growth_two : T (le growth (f32 2))
unfolding f32 of_int le growth of_bits
growth_two = tt

-- at alpha 1.0 there is one pass, with the threshold 1.0
pub one_pass : thresholds (f32 1) ≡ f32 1 ∷ []
unfolding thresholds thresholds_from le f32 of_int
one_pass = refl

-- ---- the order of positive values
not_above : (x y : Float) → T (positive x) → T (positive y) → lt y x ≡ false → T (le x y)
not_above x y p q e =
    cross→le x y p q (ltb-false (num y * den x) (num x * den y) (sym (lt_plain y x (plain_of_positive y q) (plain_of_positive x p)) ∙ e))

at_most : (x y : Float) → T (positive x) → T (positive y) → T (le x y) → lt y x ≡ false
at_most x y p q h =
    lt_plain y x (plain_of_positive y q) (plain_of_positive x p) ∙ le-ltb (num y * den x) (num x * den y) (le→cross x y p q h)

-- a value from 1.0 to 2.0: what an index takes for alpha
pub record Accepted (alpha : Float) : Type 0 where
  pub low : T (le (f32 1) alpha)
  pub high : T (le alpha (f32 2))

pub accepted : (alpha : Float) → T (alpha_ok alpha) → Accepted alpha
unfolding alpha_ok
accepted alpha h = record { low = and_l (le (f32 1) alpha) (le alpha (f32 2)) h; high = and_r (le (f32 1) alpha) (le alpha (f32 2)) h }

accepted_positive : (t : Float) → Accepted t → T (positive t)
accepted_positive t a = between (f32 1) t (f32 2) one_positive two_positive a.low a.high

pub below_largest : (t : Float) → Accepted t → lt t largest ≡ true
below_largest t a = go (lt t largest) refl
  where
    p : T (positive t)
    p = accepted_positive t a

    go : (b : Bool) → lt t largest ≡ b → lt t largest ≡ true
    go true e = e
    go false e =
        absurd (true≢false (sym (lt_le_trans (f32 2) largest t (plain_of_positive (f32 2) two_positive) largest_plain (plain_of_positive t p) two_largest e) ∙ at_most t (f32 2) p two_positive a.high))

-- ---- one step
next : Float → Float → Float
next alpha t = fmin (mul binary32 t (fmin alpha growth)) alpha

module _ (x y : Float) where
  -- a fact of both is a fact of the smaller
  of_smaller : (P : Float → Type 0) → P x → P y → P (fmin x y)
  of_smaller P p q = by_cases P (lt y x) (λ e. q) (λ e. p)

  smaller_right : T (positive x) → T (positive y) → T (le (fmin x y) y)
  smaller_right p q =
      by_cases (λ (z : Float). T (le z y)) (lt y x) (λ e. cross→le y y q q (le_refl (num y * den y))) (λ e. not_above x y p q e)

-- a threshold: from 1.0 to alpha
pub record Threshold (alpha t : Float) : Type 0 where
  pub low : T (le (f32 1) t)
  pub high : T (le t alpha)

module _ (alpha : Float) (a : Accepted alpha) where
  alpha_positive : T (positive alpha)
  alpha_positive = accepted_positive alpha a

  pub alpha_plain : T (plain alpha)
  alpha_plain = plain_of_positive alpha alpha_positive

  itself : T (le alpha alpha)
  itself = cross→le alpha alpha alpha_positive alpha_positive (le_refl (num alpha * den alpha))

  accepted_threshold : (t : Float) → Threshold alpha t → Accepted t
  accepted_threshold t h =
      record { low = h.low; high = le_trans_positive t alpha (f32 2) (between (f32 1) t alpha one_positive alpha_positive h.low h.high) alpha_positive two_positive h.high a.high }

  threshold_next : (t : Float) → Threshold alpha t → Threshold alpha (next alpha t)
  unfolding next
  threshold_next t h =
      let g = fmin alpha growth in
      let x = mul binary32 t g in
      let G : Accepted g = of_smaller alpha growth Accepted a (record { low = one_growth; high = growth_two }) in
      let q = accepted_positive g G in
      let A = accepted_threshold t h in
      let p = accepted_positive t A in
      let lo : T (le (f32 1) x) = subst (λ (z : Float). T (le z x)) one_one (mul_mono binary32 (f32 1) t (f32 1) g one_positive p one_positive q h.low G.low) in
      let hi : T (le x (f32 4)) = subst (λ (z : Float). T (le x z)) two_two (mul_mono binary32 t (f32 2) g (f32 2) p two_positive q two_positive A.high G.high) in
      record {
        low = of_smaller x alpha (λ z. T (le (f32 1) z)) lo a.low;
        high = smaller_right x alpha (between (f32 1) x (f32 4) one_positive four_positive lo hi) alpha_positive;
      }

  from_thresholds : (k : ℕ) (t : Float) → Threshold alpha t → All (Threshold alpha) (thresholds_from k alpha t)
  unfolding thresholds_from next
  from_thresholds zero t h = (h, tt)
  from_thresholds (suc k) t h =
      let rest = from_thresholds k (next alpha t) (threshold_next t h) in
      (h, by_cases (All (Threshold alpha)) (le alpha t) (λ e. tt) (λ e. rest))

  -- each threshold is from 1.0 to alpha
  pub all_thresholds : All (Threshold alpha) (thresholds alpha)
  unfolding thresholds
  all_thresholds = from_thresholds 4 (f32 1) (record { low = one_itself; high = a.low })
    where
      one_itself : T (le (f32 1) (f32 1))
      one_itself = cross→le (f32 1) (f32 1) one_positive one_positive (le_refl (num (f32 1) * den (f32 1)))

  module _ (t : Float) (h : Threshold alpha t) where
    pub threshold_plain : T (plain t)
    threshold_plain = plain_of_positive t (accepted_positive t (accepted_threshold t h))

    pub threshold_largest : lt t largest ≡ true
    threshold_largest = below_largest t (accepted_threshold t h)

    pub threshold_at_most : lt alpha t ≡ false
    threshold_at_most = at_most t alpha (accepted_positive t (accepted_threshold t h)) alpha_positive h.high

-- ---- five passes
-- whether alpha is not above one of the thresholds from t to the one n passes later
ends : ℕ → Float → Float → Bool
ends zero alpha t = le alpha t
ends (suc n) alpha t = le alpha t || ends n alpha (next alpha t)

now : (n : ℕ) (alpha t : Float) → T (le alpha t) → T (ends n alpha t)
unfolding ends
now zero alpha t h = h
now (suc n) alpha t h = or_l (le alpha t) (ends n alpha (next alpha t)) h

later : (n : ℕ) (alpha t : Float) → T (ends n alpha (next alpha t)) → T (ends (suc n) alpha t)
unfolding ends
later n alpha t h = or_r (le alpha t) (ends n alpha (next alpha t)) h

-- where the thresholds end within n passes, more change nothing
more_passes : (n k : ℕ) (alpha t : Float) → n ≤ k → T (ends n alpha t) → thresholds_from k alpha t ≡ thresholds_from n alpha t
unfolding ends thresholds_from next
more_passes zero zero alpha t l h = refl
more_passes zero (suc k) alpha t l h = go (le alpha t) h
  where
    go : (b : Bool) → T b → t ∷ cond b [] (thresholds_from k alpha (next alpha t)) ≡ t ∷ []
    go true e = refl
    go false e = absurd e
more_passes (suc n) zero alpha t l h = absurd (omega arith)
more_passes (suc n) (suc k) alpha t l h = go (le alpha t) h (more_passes n k alpha (next alpha t) (omega arith))
  where
    go : (b : Bool) → T (b || ends n alpha (next alpha t)) → (T (ends n alpha (next alpha t)) → thresholds_from k alpha (next alpha t) ≡ thresholds_from n alpha (next alpha t))
        → t ∷ cond b [] (thresholds_from k alpha (next alpha t)) ≡ t ∷ cond b [] (thresholds_from n alpha (next alpha t))
    go true e r = refl
    go false e r = ap (λ (l : List Float). t ∷ l) (r e)

-- the code's bound: five thresholds at most
from_length : (k : ℕ) (alpha t : Float) → length (thresholds_from k alpha t) ≤ suc k
unfolding thresholds_from next
from_length zero alpha t = le_refl 1
from_length (suc k) alpha t =
    let rest = from_length k alpha (next alpha t) in
    by_cases (λ (l : List Float). suc (length l) ≤ suc (suc k)) (le alpha t) (λ e. omega arith) (λ e. omega arith)

pub thresholds_length : (alpha : Float) → length (thresholds alpha) ≤ 5
unfolding thresholds
thresholds_length alpha = from_length 4 alpha (f32 1)

module _ (alpha : Float) (fine : T (fits binary32 alpha)) (a : Accepted alpha) where
  -- 1.0 times alpha is alpha
  once : T (le alpha (mul binary32 (f32 1) alpha))
  once =
      let p = alpha_positive alpha a in
      rw (mul_at binary32 (f32 1) alpha 1 1 (num alpha) (den alpha) one_positive p (lit< tt) (den_pos alpha) (f32_value 1 (omega arith)) (own_value alpha p), one-mul (num alpha), one-mul (den alpha))
      (le_of_values alpha (round binary32 false (num alpha) (den alpha)) (num alpha) (den alpha) (num alpha) (den alpha) (den_pos alpha) (den_pos alpha)
      (own_value alpha p) (round_self binary32 alpha p fine) (le_refl (num alpha * den alpha)))

  -- where alpha is above 1.2 each threshold is 1.2 times the one before, or alpha
  grown : lt growth alpha ≡ true → (n : ℕ) (t : Float) → T (ends n alpha (mul binary32 t growth)) → T (ends (suc n) alpha t)
  unfolding next
  grown e n t h =
      later n alpha t (rw e (of_smaller (mul binary32 t growth) alpha (λ (x : Float). T (ends n alpha x)) h (now n alpha alpha (itself alpha a))))

  -- where it is not, the second threshold is alpha
  capped : lt growth alpha ≡ false → T (ends 4 alpha (f32 1))
  unfolding next
  capped e = later 3 alpha (f32 1) (now 3 alpha (next alpha (f32 1)) (rw e (of_smaller (mul binary32 (f32 1) alpha) alpha (λ (x : Float). T (le alpha x)) once (itself alpha a))))

  reached : T (ends 4 alpha (f32 1))
  reached = go (lt growth alpha) refl
    where
      go : (b : Bool) → lt growth alpha ≡ b → T (ends 4 alpha (f32 1))
      go true e =
          let c1 = mul binary32 (f32 1) growth in
          let c2 = mul binary32 c1 growth in
          let c3 = mul binary32 c2 growth in
          grown e 3 (f32 1) (grown e 2 c1 (grown e 1 c2 (grown e 0 c3 (now 0 alpha (mul binary32 c3 growth)
          (rw four_steps (le_trans_positive alpha (f32 2) (fin false 4348655 (negsuc 20)) (alpha_positive alpha a) two_positive tt a.high two_below))))))
      go false e = capped e

  -- alpha is reached in five passes, so that more would change nothing
  pub five_passes : (k : ℕ) → 4 ≤ k → thresholds_from k alpha (f32 1) ≡ thresholds alpha
  unfolding thresholds
  five_passes k h = more_passes 4 k alpha (f32 1) h reached
