use Rattle.std.proofs.Common.{arith, ◌∙◌}
use Rattle.distances.proofs.Sums.{summed_last}
use Rattle.distances.proofs.lanes.last.Goals.{then-left-ge2, else-left-ge2, then-left-ge3, else-left-ge3}
use Rattle.distances.proofs.lanes.last.Goals as goal

pub returns : goal.returns
returns g c =
    summed_last c.requires.0 c.type_inv.a c.type_inv.b c.args.i c.requires.1 c.requires.2 c.term-first.ensures
    (elim c.if-left-ge2.branch [
      | then-left-ge2 w ↦ (λ h. w.second-is ∙ w.term-second.ensures, λ h. absurd (omega (arith, w.if-left-ge2.true)))
      | else-left-ge2 w ↦ (λ h. absurd (omega (arith, w.if-left-ge2.false)), λ h. w.second-is)
    ])
    (elim c.if-left-ge3.branch [
      | then-left-ge3 w ↦ (λ h. w.third-is ∙ w.term-third.ensures, λ h. absurd (omega (arith, w.if-left-ge3.true)))
      | else-left-ge3 w ↦ (λ h. absurd (omega (arith, w.if-left-ge3.false)), λ h. w.third-is)
    ])
