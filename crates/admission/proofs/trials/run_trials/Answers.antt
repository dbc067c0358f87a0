use Rattle.admission.proofs.Pooling.{counting_next}
use Rattle.admission.proofs.Trying.{losing_take, losing_before, losing_after}
use Rattle.admission.proofs.trials.run_trials.Goals as goal
use Rattle.admission.proofs.trials.run_trials.Goals.{then-before+then-not-after, else-before, else-before-via-then-before+else-not-after, else-before-via-else-before}

pub loop-landmark-preserved : goal.loop-landmark-preserved
loop-landmark-preserved c =
    let f = c.loop-landmark.invariant in
    let h = c.loop-landmark-test.true in
    let u = c.reaches-before.ensures in
    let v = c.reaches-after.ensures in
    let p = counting_next f.0 h u c.from.ensures in
    let q = counting_next f.1 h v c.from-in-loop-landmark.ensures in
    elim c.if-before.branch [
      | then-before+then-not-after w ↦ rw (w.lost-is, w.t-is) (p, q, losing_take f.2 c.requires.ids_value.1 h u v w.if-before.true w.if-not-after.true)
      | else-before w ↦
          elim w.else-before.branch [
            | else-before-via-then-before+else-not-after w' ↦ rw (w.lost-is, w.t-is) (p, q, losing_after f.2 h u v w'.if-before.true w'.if-not-after.false)
            | else-before-via-else-before w' ↦ rw (w.lost-is, w.t-is) (p, q, losing_before f.2 h u w'.if-before.false)
          ]
    ]
