-- The numbers of the first `i` slots are written.
use lib.ListN.{length}
use Rattle.numbers.specs.Numbers.{number_of}
use Rattle.numbers.proofs.Writes.{Mapped}
use Rattle.numbers.proofs.writing.copy_numbers.Given as goal

abbrev pub invariant-loop-i : goal.invariant-loop-i
invariant-loop-i l = Mapped (number_of l.numbers) l.slots (length l.initial.out) l.initial.out l.i l.out
