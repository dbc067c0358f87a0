-- Weights that pass the test. Assumes nothing.
use Prim.Native.Nat.{ℕ, zero, suc, ◌≤◌, ◌<◌}
use mathlib.Core.Bool.{true}
use mathlib.Core.List.{List, [], ◌∷◌}
use mathlib.Core.Path.{◌≡◌, refl}
use native.Mathlib.Omega.{arith}
use borrow.Author.Tests.{leb-true, le-leb}
use lib.Dec.{leb}
use lib.ListN.{length, get_or}
use Rattle.lists.specs.Lists.{all, sum}
use Rattle.std.proofs.lemmas.Bool.{and_parts}
use Rattle.vectors.specs.Weights.{Weighing, Ones}
use Rattle.slots.specs.Sizes.{limits, within, weights_ok}

each_within : (ws : List ℕ) → all (within 1 4) ws ≡ true → (i : ℕ) → i < length ws → get_or ws i 0 ≤ 4
each_within [] e i h = omega (arith, h)
each_within (w ∷ ws) e zero h =
    let f = and_parts (within 1 4 w) (all (within 1 4) ws) e in leb-true w 4 (and_parts (leb 1 w) (leb w 4) f.0).1
each_within (w ∷ ws) e (suc i) h = each_within ws (and_parts (within 1 4 w) (all (within 1 4) ws) e).1 i (omega arith)

-- they are within the bounds that the distances rest on
pub weights_weigh : (ws : List ℕ) → weights_ok limits ws ≡ true → Weighing ws
unfolding weights_ok limits
weights_weigh ws e =
    let f = and_parts (all (within 1 4) ws) (leb (sum ws) 256) e in
    record { each = each_within ws f.0; few = leb-true (sum ws) 256 f.1 }

all_ones : (ws : List ℕ) → Ones ws → all (within 1 4) ws ≡ true
all_ones [] o = refl
all_ones (w ∷ ws) o = let e : w ≡ 1 = o 0 (omega arith) in rw (e, all_ones ws (λ i h. o (suc i) (omega arith)))

sum_ones : (ws : List ℕ) → Ones ws → sum ws ≡ length ws
sum_ones [] o = refl
sum_ones (w ∷ ws) o = let e : w ≡ 1 = o 0 (omega arith) in omega (arith, e, sum_ones ws (λ i h. o (suc i) (omega arith)))

-- weights of 1 pass
pub ones_pass : (ws : List ℕ) → Ones ws → length ws ≤ 256 → weights_ok limits ws ≡ true
unfolding weights_ok limits
ones_pass ws o h = rw (all_ones ws o, le-leb (sum ws) 256 (omega (arith, sum_ones ws o)))
