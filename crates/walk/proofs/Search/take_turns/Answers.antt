use mathlib.Core.Path.{refl, ◌∙◌}
use native.Mathlib.Omega.{arith}
use Rattle.walk.proofs.Walking.{walking_out, walking_over, walking_more, walking_goes, below}
use Rattle.walk.proofs.Search.take_turns.Goals as goal

pub returns-in_default : goal.returns-in_default
returns-in_default c =
    let v = c.loop.invariant in
    (walking_over v.1 (rw v.2.beam at c.to_expand.ensures.0 c.in_default.is) refl, v.2)

pub expand-requires : goal.expand-requires
expand-requires c =
    let v = c.loop.invariant in
    let x = c.to_expand.ensures.1 _ c.in-Some.is in
    (rw v.2.beam (walking_goes v.1 (rw v.2.beam at x.0) x.1), below v.1 (rw v.2.beam at x.0) x.1, v.0)

pub loop-preserved : goal.loop-preserved
loop-preserved c =
    let v = c.loop.invariant in
    let x = c.to_expand.ensures.1 _ c.in-Some.is in (
      c.expand.auto.fresh ∙ v.0,
      walking_more v.1 (rw v.2.beam at x.0) x.1 (omega (arith, c.loop-test.true)) (rw v.2.beam at c.expand.ensures.0),
      record { words = c.expand.ensures.1.words ∙ v.2.words; beam = c.expand.ensures.1.beam ∙ v.2.beam },
    )

pub returns : goal.returns
returns c = (walking_out c.loop.invariant.1 (omega (arith, c.loop-test.false)), c.loop.invariant.2)
