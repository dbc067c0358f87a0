-- The words so far name slots inside whose numbers rise up to `low`.
use Rattle.numbers.proofs.Tests.{RisingTo}
use Rattle.numbers.proofs.fits.falls.Given as goal

abbrev pub invariant-loop-s : goal.invariant-loop-s
invariant-loop-s l = RisingTo l.numbers l.slots l.low l.s-index
