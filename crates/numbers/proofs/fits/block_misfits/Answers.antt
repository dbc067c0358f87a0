use Rattle.std.proofs.lemmas.Slice.Zip.{either_empty_from_Zip}
use Rattle.numbers.proofs.Tests.{fitting_done}
use Rattle.numbers.proofs.fits.block_misfits.Goals as goal

pub returns : goal.returns
returns c = fitting_done c.loop-mark.invariant (either_empty_from_Zip c.loop-mark.mark-iterator c.next.new.self c.next.result c.in-None.is c.next.ensures.steps)
