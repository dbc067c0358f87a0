-- The slots of the first `i` names are written.
use lib.ListN.{length}
use Rattle.numbers.specs.Numbers.{slot_of}
use Rattle.numbers.proofs.Writes.{Mapped}
use Rattle.numbers.proofs.naming.Labels.slots_of.Given as goal

abbrev pub invariant-loop-i : goal.invariant-loop-i
invariant-loop-i l = Mapped (slot_of l.self.numbers.now) l.names (length l.names) l.initial.slots l.i l.slots
