-- Of the slots before `s`, the dead ones hold 0.
use Rattle.numbers.proofs.Writes.{Zeroed}
use Rattle.numbers.proofs.writing.zero_dead.Given as goal

abbrev pub invariant-loop-s : goal.invariant-loop-s
invariant-loop-s l = Zeroed l.marks l.initial.numbers l.s l.numbers
