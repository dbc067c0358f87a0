-- With what is left the definition gives the same.
use Rattle.std.specs.Iterator.Adapters.{zip_first, zip_second}
use Rattle.std.specs.Slice.Iter.{iter_rest}
use Rattle.numbers.proofs.Tests.{Fitting}
use Rattle.numbers.proofs.fits.block_misfits.Given as goal

abbrev pub invariant-loop-mark : goal.invariant-loop-mark
invariant-loop-mark l = Fitting l.marks l.numbers l.bad (iter_rest (zip_first l.mark-iterator)) (iter_rest (zip_second l.mark-iterator))
