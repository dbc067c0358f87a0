-- The test of row 16, a loop over the weights. Assumes nothing.
use Prim.Native.Nat.{ℕ, ◌+◌, ◌*◌, ◌≤◌, ◌<◌}
use mathlib.Core.Bool.{Bool, true, false, not, ◌&&◌, ◌||◌}
use mathlib.Core.List.{List}
use mathlib.Core.Path.{◌≡◌, refl, sym, ap, ◌∙◌}
use native.Mathlib.Numerals.{add-one}
use native.Mathlib.Omega.{arith}
use lib.Dec.{leb, ltb}
use lib.ListN.{length, get_or, drop, drop_of_length-le}
use lib.Seq.{drop-cons}
use Rattle.lists.specs.Lists.{all, sum}
use Rattle.vectors.proofs.Distances.{sum_step}
use Rattle.slots.specs.Sizes.{limits, within, weights_ok}
use Rattle.index.proofs.Decide.{ltb_leb}

-- the weights before place i: whether one of them is outside, and their sum
pub record Weighed (weights : List ℕ) (bad : Bool) (total i : ℕ) : Type 0 where
  pub rest : not bad && all (within 1 4) (drop i weights) ≡ all (within 1 4) weights
  pub adds : total + sum (drop i weights) ≡ sum weights
  pub small : total ≤ i * 255

pub weighed_none : (weights : List ℕ) → Weighed weights false 0 0
weighed_none weights = record { rest = refl; adds = omega arith; small = omega arith }

all_step : (p : ℕ → Bool) (weights : List ℕ) (i : ℕ) → i < length weights → all p (drop i weights) ≡ p (get_or weights i 0) && all p (drop (i + 1) weights)
all_step p weights i h = rw (add-one, drop-cons weights i 0)

pub weighed_more : {weights : List ℕ} {bad : Bool} {total i : ℕ} → Weighed weights bad total i → i < length weights → get_or weights i 0 ≤ 255
    → Weighed weights (bad || not (within 1 4 (get_or weights i 0))) (total + get_or weights i 0) (i + 1)
weighed_more {weights} {bad} {total} {i} k h b = record {
  rest = go bad (within 1 4 (get_or weights i 0)) (rw (all_step (within 1 4) weights i h) at k.rest);
  adds = omega (arith, k.adds, sum_step weights i h);
  small = omega (arith, k.small, b);
}
  where
    go : (x p : Bool) → not x && (p && all (within 1 4) (drop (i + 1) weights)) ≡ all (within 1 4) weights
        → not (x || not p) && all (within 1 4) (drop (i + 1) weights) ≡ all (within 1 4) weights
    go true p e = e
    go false true e = e
    go false false e = e

pub weighed_done : {weights : List ℕ} {bad : Bool} {total i : ℕ} → Weighed weights bad total i → length weights ≤ i → bad || ltb 256 total ≡ not (weights_ok limits weights)
unfolding weights_ok limits
weighed_done {weights} {bad} {total} {i} k h =
    let e = drop_of_length-le weights h in
    let adds : total ≡ sum weights = omega (arith, rw e at k.adds) in
    rw (sym adds, ltb_leb 256 total) (go bad (leb total 256) (rw e at k.rest))
  where
    go : (x l : Bool) → not x && true ≡ all (within 1 4) weights → x || not l ≡ not (all (within 1 4) weights && l)
    go true l e = rw (sym e)
    go false l e = rw (sym e)

module _ {weights : List ℕ} {bad : Bool} {total i : ℕ} (k : Weighed weights bad total i) (h : length weights ≤ i) where
  pub weighed_outside : bad ≡ true → bad ≡ not (weights_ok limits weights)
  weighed_outside t = t ∙ sym (ap (λ b. b || ltb 256 total) t) ∙ weighed_done k h

  pub weighed_sum : bad ≡ false → {sum' : ℕ} → sum' ≡ total → ltb 256 sum' ≡ not (weights_ok limits weights)
  weighed_sum f e = ap (ltb 256) e ∙ sym (ap (λ b. b || ltb 256 total) f) ∙ weighed_done k h
