-- What the code finds by f32 numbers is what the definitions say of distances up to 2 ^ 24. Assumes nothing.
use Prim.Native.Nat.{ℕ, zero, suc, ◌≤◌}
use mathlib.Core.Path.{◌≡◌, refl}
use mathlib.Core.Bool.{Bool, true, false, cond, ◌&&◌, ◌||◌}
use lib.Dec.{eqb, ltb}
use lib.Ieee.{Float, binary32, div, lt, eq}
use Rattle.std.specs.Prelude.{Some, None}
use Rattle.std.specs.Ordering.{is_lt, is_some_and, partial_ordering_then, float_partial_cmp, as_partial_cmp, nat_cmp}
use Rattle.std.specs.declared.cmp.Ordering.TheVariants.{Less, Equal, Greater}
use Rattle.candidates.specs.Candidates.{before}
use Rattle.vectors.specs.Distance.{f32}
use Rattle.candidates.specs.Quotient.{largest, quotient, before_f32}
use Rattle.candidates.specs.Inner.Words.{pair}
use Rattle.candidates.proofs.Floats.{lt_f32, eq_f32}

-- the derived order: by distance, then by slot
pub before_derived : (x y : Float) (i j : ℕ) → is_some_and is_lt (partial_ordering_then (float_partial_cmp x y) (as_partial_cmp nat_cmp i j)) ≡ before_f32 x i y j
unfolding before_f32
before_derived x y i j = go (lt x y) (eq x y) (lt y x) (ltb i j) (eqb i j)
  where
    go : (a b c d e : Bool) → is_some_and is_lt (partial_ordering_then (cond a (Some Less) (cond b (Some Equal) (cond c (Some Greater) None))) (Some (cond d Less (cond e Equal Greater)))) ≡ (a || b && d)
    go true b c d e = refl
    go false true c true e = refl
    go false true c false true = refl
    go false true c false false = refl
    go false false true d e = refl
    go false false false d e = refl

pub before_exact : (d i e j : ℕ) → d ≤ 16777216 → e ≤ 16777216 → before_f32 (f32 d) i (f32 e) j ≡ before (pair d i) (pair e j)
unfolding before_f32
before_exact d i e j D E = rw (lt_f32 d e D E, eq_f32 d e D E)

-- two candidates made from whole numbers, and their order
pub before_made : {x y : Float} {i j d e k l : ℕ} {r : Bool} → d ≤ 16777216 → e ≤ 16777216 → (x ≡ f32 d) × (i ≡ k) → (y ≡ f32 e) × (j ≡ l)
    → r ≡ before_f32 x i y j → r ≡ before (pair d k) (pair e l)
before_made {x} {y} {i} {j} {d} {e} {k} {l} {r} D E a b h = rw (a.0, a.1, b.0, b.1, before_exact d k e l D E) at h

pub quotient_zero : (own pair : ℕ) → pair ≡ 0 → largest ≡ quotient own pair
unfolding quotient
quotient_zero own pair e = rw e

pub quotient_other : (own pair : ℕ) → (pair ≡ 0 → ⊥) → div binary32 (f32 own) (f32 pair) ≡ quotient own pair
unfolding quotient
quotient_other own zero h = absurd (h refl)
quotient_other own (suc pair) h = refl
