-- Row 13 of the table from the live count: where a slot is live, the pool that enabling chooses is empty exactly where no other is
-- (docs/DECISIONS.md, D-23). Assumes nothing.
use Prim.Native.Nat.{◌<◌}
use mathlib.Core.Path.{◌≡◌}
use lib.Dec.{eqb}
use lib.ListN.{length}
use Rattle.slots.specs.View.{View, live_slots}
use Rattle.guard.specs.Guard.{Config}
use Rattle.guard.proofs.Enabling.{enters, pool_empty}
use Rattle.calls.specs.Refusals.{new_pool}

pub one_live : (v : View) (c : Config) → v.entry < v.sizes.capacity → 0 < length (live_slots v)
    → eqb (length (new_pool v c)) 0 ≡ eqb (length (live_slots v)) 1
unfolding new_pool
one_live v c h k = let e = enters v h k in rw e.is (pool_empty v e.slot e.live e.inside c)
