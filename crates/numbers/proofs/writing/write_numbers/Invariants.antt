-- The first `i` numbers are written.
use Rattle.numbers.proofs.Writes.{Written}
use Rattle.numbers.proofs.writing.write_numbers.Given as goal

abbrev pub invariant-loop-i : goal.invariant-loop-i
invariant-loop-i l = Written l.slots l.given l.initial.numbers l.i l.numbers
