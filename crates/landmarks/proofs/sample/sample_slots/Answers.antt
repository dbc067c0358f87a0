use mathlib.Core.Path.{refl}
use Rattle.std.proofs.Common.{arith}
use Rattle.landmarks.proofs.Sampling.{sampling_none, sampling_take, sampling_skip, sampling_done, both_hold, first_fails, second_fails}
use Rattle.landmarks.proofs.sample.sample_slots.Goals as goal
use Rattle.landmarks.proofs.sample.sample_slots.Goals.{then-takes+then-has, else-takes, else-takes-via-then-takes+else-has, else-takes-via-else-takes}

pub loop-s-init : goal.loop-s-init
loop-s-init g c = (omega arith, refl, λ p law. sampling_none _ _ _)

pub loop-s-preserved : goal.loop-s-preserved
loop-s-preserved g c =
    let f = c.loop-s.invariant in
    let h = c.loop-s-test.true in
    elim c.if-takes.branch [
      | then-takes+then-has w ↦ (omega (arith, f.0, w.m-is), omega (arith, c.if-takes.auto.words, f.1), λ p law. rw (w.words-is, w.m-is, w.put.ensures) (sampling_take (f.2 p law) c.requires.room.1 h (both_hold (law _ _ (omega (arith, h, c.requires.room.0)) c.takes.ensures) w.if-takes.true w.has.ensures w.if-has.true)))
      | else-takes w ↦ (
        omega (arith, f.0, w.m-is),
        omega (arith, c.if-takes.auto.words, f.1),
        λ p law.
            elim w.else-takes.branch [
              | else-takes-via-then-takes+else-has w' ↦ rw (w.words-is, w.m-is) (sampling_skip (f.2 p law) h (second_fails (law _ _ (omega (arith, h, c.requires.room.0)) c.takes.ensures) w'.if-takes.true w'.has.ensures w'.if-has.false))
              | else-takes-via-else-takes w' ↦ rw (w.words-is, w.m-is) (sampling_skip (f.2 p law) h (first_fails _ (law _ _ (omega (arith, h, c.requires.room.0)) c.takes.ensures) w'.if-takes.false))
            ],
      )
    ]

pub returns : goal.returns
returns g c = λ p law. sampling_done (c.loop-s.invariant.2 p law) c.loop-s.auto.s-end c.loop-s-test.false
