-- The blocks so far fit.
use Rattle.std.specs.Iterator.Adapters.{zip_first, zip_second}
use Rattle.std.specs.Slice.Iter.{chunks_rest, chunks_size}
use Rattle.numbers.proofs.Tests.{Blocks}
use Rattle.numbers.proofs.fits.numbers_misfit.Given as goal

abbrev pub invariant-loop-some_marks : goal.invariant-loop-some_marks
invariant-loop-some_marks l =
    Blocks l.marks l.numbers (chunks_size (zip_first l.some_marks-iterator)) (chunks_size (zip_second l.some_marks-iterator)) (chunks_rest (zip_first l.some_marks-iterator))
    (chunks_rest (zip_second l.some_marks-iterator))
