-- The number of a plan's links, summed up candidate by candidate. Assumes nothing.
use Prim.Native.Nat.{ℕ, suc, ◌+◌, ◌-◌, ◌*◌, ◌≤◌, ◌<◌, min}
use mathlib.Core.Path.{◌≡◌, ap, sym, ◌∙◌}
use native.Mathlib.Nat.{add_assoc, add-zero}
use native.Mathlib.Numerals.{add-one}
use native.Mathlib.Omega.{arith}
use Rattle.repair.proofs.Counting.{links_of, repair_length}
use Rattle.links.specs.Inner.Planning.{Attempted}

-- the sum so far
pub record Counting (degree n total k : ℕ) : Type 0 where
  pub low : 1 ≤ k
  pub high : k ≤ n + 1
  pub small : total ≤ 32 * k
  pub goes : total + links_of degree k (n - k) ≡ links_of degree 1 (n - 1)

pub counting_more : {degree n total k r : ℕ} → degree ≤ 16 → k < n → r ≡ min degree k → Counting degree n total k → Counting degree n (total + 2 * r) (k + 1)
unfolding links_of
counting_more {degree} {n} {total} {k} {r} h l e c =
    let s : n - k ≡ suc (n - (k + 1)) = omega arith in
    let b : r ≤ 16 = omega arith in
    let d : total + 2 * r ≡ total + (r + r) = omega arith in
    record {
      low = omega arith;
      high = omega arith;
      small = omega (arith, c.small);
      goes = rw (d, e, add_assoc total (min degree k + min degree k), add-one k) (rw (s, add-one k) at c.goes);
    }

pub counting_done : {degree n total k : ℕ} → n ≤ 320 → n ≤ k → Counting degree n total k → Attempted degree n total
unfolding links_of
counting_done {degree} {n} {total} {k} few h c =
    let z : n - k ≡ 0 = omega arith in
    record {
      count = λ d entry cs e u. (rw (z, add-zero) at c.goes) ∙ ap (λ (m : ℕ). links_of degree 1 (m - 1)) (sym e) ∙ sym (repair_length d degree entry cs u);
      few = omega (arith, c.small, c.high);
    }
