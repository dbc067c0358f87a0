use native.Mathlib.Omega.{arith}
use borrow.Author.Tests.{eq-eqb, ne_eqb}
use Rattle.numbers.proofs.Writes.{zeroed_more, zeroed_done}
use Rattle.numbers.proofs.writing.zero_dead.Goals.{then-marks-s-eq0, else-marks-s-eq0}
use Rattle.numbers.proofs.writing.zero_dead.Goals as goal

pub loop-s-preserved : goal.loop-s-preserved
loop-s-preserved c =
    zeroed_more (omega arith) c.loop-s.invariant
    (elim c.if-marks-s-eq0.branch [
      | then-marks-s-eq0 w ↦ rw (w.number-is, eq-eqb _ 0 w.if-marks-s-eq0.true)
      | else-marks-s-eq0 w ↦ rw (w.number-is, ne_eqb _ 0 w.if-marks-s-eq0.false)
    ])

pub returns : goal.returns
returns c = zeroed_done c.requires (omega arith) c.loop-s.invariant
