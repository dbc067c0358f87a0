-- Of the places in the parts so far none has 0, or a number that stands later again.
use Prim.Native.Nat.{◌*◌}
use mathlib.Core.Path.{◌≡◌}
use lib.ListN.{length}
use Rattle.numbers.proofs.Twice.{Clear}
use Rattle.numbers.proofs.fresh.repeated_by.Given as goal

abbrev pub invariant-loop-part : goal.invariant-loop-part
invariant-loop-part l = Clear l.given (l.part * l.size) × (length l.order ≡ l.size)
