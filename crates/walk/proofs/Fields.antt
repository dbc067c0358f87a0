-- Fields of two bits in a word: what is put is read again, the others stay, and the word still fits. Assumes nothing.
use Prim.Native.Nat.{ℕ, zero, suc, ◌+◌, ◌-◌, ◌*◌, ◌/◌, ◌%◌, ◌^◌, ◌≤◌, ◌<◌}
use mathlib.Core.Path.{◌≡◌, refl, ap, ap₂, sym, ◌∙◌}
use native.Mathlib.Nat.{le_trans, lt_of_le_of_lt, mul-le-mul_right, mul_left_comm, mod-le, mod-eq_of_lt, div-one, zero-div, div-mul-le_self}
use native.Mathlib.Omega.{arith}
use lib.Pow.{pow-add, shr-shr, shl_exact}
use Rattle.walk.specs.Inner.Scratch.{field, put_field}

pub field_zero : (k : ℕ) → field k 0 ≡ 0
unfolding field
field_zero k = ap (λ (n : ℕ). n % 4) (zero-div (2 ^ (2 * k)))

pub field_within : (k x : ℕ) → field k x * 2 ^ (2 * k) ≤ x
unfolding field
field_within k x = le_trans (mul-le-mul_right (2 ^ (2 * k)) (mod-le (x / 2 ^ (2 * k)) 4)) (div-mul-le_self x (2 ^ (2 * k)))

-- ---- the first field, and the others, which are those of a quarter of the word
next : (k : ℕ) → 2 * suc k ≡ 2 + 2 * k
next k = omega arith

four_times : (k : ℕ) → 2 ^ (2 * suc k) ≡ 4 * 2 ^ (2 * k)
four_times k = ap (λ (n : ℕ). 2 ^ n) (next k) ∙ pow-add 2 2 (2 * k)

field_first : (x : ℕ) → field 0 x ≡ x % 4
unfolding field
field_first x = ap (λ (n : ℕ). n % 4) (div-one x)

field_next : (k x : ℕ) → field (suc k) x ≡ field k (x / 4)
unfolding field
field_next k x = ap (λ (n : ℕ). x / 2 ^ n % 4) (next k) ∙ ap (λ (n : ℕ). n % 4) (sym (shr-shr x 2 (2 * k)))

put_first : (v x : ℕ) → put_field 0 v x ≡ x / 4 * 4 + v
unfolding put_field
put_first v x = rw (field_first x) (omega arith)

put_next : (k v x : ℕ) → put_field (suc k) v x ≡ 4 * put_field k v (x / 4) + x % 4
unfolding put_field
put_next k v x =
    ap₂ (λ (n u : ℕ). x - n * u + v * u) (field_next k x) (four_times k)
    ∙ ap₂ (λ (m n : ℕ). x - m + n) (mul_left_comm (field k (x / 4)) 4 (2 ^ (2 * k))) (mul_left_comm v 4 (2 ^ (2 * k)))
    ∙ spread (field k (x / 4) * 2 ^ (2 * k)) (v * 2 ^ (2 * k)) (field_within k (x / 4))
  where
    spread : (m n : ℕ) → m ≤ x / 4 → x - 4 * m + 4 * n ≡ 4 * (x / 4 - m + n) + x % 4
    spread m n h = omega arith

put_quarter : (k v x : ℕ) → put_field (suc k) v x / 4 ≡ put_field k v (x / 4)
put_quarter k v x = omega (arith, put_next k v x)

-- ---- v is put at place k
pub field_same : (k v x : ℕ) → v < 4 → field k (put_field k v x) ≡ v
field_same zero v x h = field_first (put_field 0 v x) ∙ omega (arith, put_first v x)
field_same (suc k) v x h = field_next k (put_field (suc k) v x) ∙ ap (field k) (put_quarter k v x) ∙ field_same k v (x / 4) h

pub field_other : (k j v x : ℕ) → v < 4 → (j ≡ k → ⊥) → field j (put_field k v x) ≡ field j x
field_other zero zero v x h n = absurd (n refl)
field_other zero (suc j) v x h n =
    let e : put_field 0 v x / 4 ≡ x / 4 = omega (arith, put_first v x) in
    field_next j (put_field 0 v x) ∙ ap (field j) e ∙ sym (field_next j x)
field_other (suc k) zero v x h n =
    let e : put_field (suc k) v x % 4 ≡ x % 4 = omega (arith, put_next k v x) in
    field_first (put_field (suc k) v x) ∙ e ∙ sym (field_first x)
field_other (suc k) (suc j) v x h n =
    field_next j (put_field (suc k) v x) ∙ ap (field j) (put_quarter k v x) ∙ field_other k j v (x / 4) h (λ e. n (ap suc e)) ∙ sym (field_next j x)

put_below : (k n v x : ℕ) → k < n → v < 4 → x < 2 ^ (2 * n) → put_field k v x < 2 ^ (2 * n)
put_below k zero v x l h f = absurd (omega arith)
put_below zero (suc n) v x l h f = omega (arith, put_first v x, four_times n)
put_below (suc k) (suc n) v x l h f =
    let g : put_field k v (x / 4) < 2 ^ (2 * n) = put_below k n v (x / 4) (omega arith) h (omega (arith, four_times n)) in
    omega (arith, put_next k v x, four_times n)

-- ---- as the code puts it: a shift cuts what is above 32 bits
module _ {k v x o : ℕ} (h : (k < 16) × (v < 4)) (f : x < 2 ^ 32) (e : o ≡ field k x) where
  old_shifted : (o * 2 ^ (2 * k)) % 2 ^ 32 ≡ field k x * 2 ^ (2 * k)
  old_shifted = ap (λ (n : ℕ). (n * 2 ^ (2 * k)) % 2 ^ 32) e ∙ mod-eq_of_lt (lt_of_le_of_lt (field_within k x) f)

  pub put_within : (o * 2 ^ (2 * k)) % 2 ^ 32 ≤ x
  put_within = rw old_shifted (field_within k x)

  pub put_shifted : x - (o * 2 ^ (2 * k)) % 2 ^ 32 + (v * 2 ^ (2 * k)) % 2 ^ 32 ≡ put_field k v x
  unfolding put_field
  put_shifted = ap₂ (λ (m n : ℕ). x - m + n) old_shifted (shl_exact 2 (2 * k) 32 h.1 (omega (arith, h.0)))

  pub put_fits : x - (o * 2 ^ (2 * k)) % 2 ^ 32 + (v * 2 ^ (2 * k)) % 2 ^ 32 < 2 ^ 32
  put_fits = rw put_shifted (put_below k 16 v x h.0 h.1 f)

-- where the field is 0, v is added
module _ (k v x : ℕ) (h : k < 16) (l : v < 4) (f : x < 2 ^ 32) (e : field k x ≡ 0) where
  pub add_shifted : x + (v * 2 ^ (2 * k)) % 2 ^ 32 ≡ put_field k v x
  add_shifted = omega (arith, put_shifted (h, l) f (sym e))

  pub add_fits : x + (v * 2 ^ (2 * k)) % 2 ^ 32 < 2 ^ 32
  add_fits = omega (arith, put_fits (h, l) f (sym e))
