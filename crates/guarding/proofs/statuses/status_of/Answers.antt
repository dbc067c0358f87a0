use mathlib.Core.Path.{sym}
use native.Mathlib.Omega.{arith}
use lib.Seq.{length-take-le}
use Rattle.guarding.proofs.Stands.{stood_off, pool_inside, stood_on}
use Rattle.guarding.proofs.statuses.status_of.Goals as goal

pub returns-in_default : goal.returns-in_default
returns-in_default c = stood_off c.args.guard c.args.slices.now.marks.now c.args.slices.now.pool.now c.in_default.is c.default.ensures

pub slice_bounds-live_landmarks-end : goal.slice_bounds-live_landmarks-end
slice_bounds-live_landmarks-end c = sym (length-take-le _ c.args.slices.now.pool.now (pool_inside c.args.guard c.args.slices.now.marks.now c.args.slices.now.pool.now c.in-Some.is c.requires.0 c.requires.1).0)

pub live_landmarks-live-requires : goal.live_landmarks-live-requires
live_landmarks-live-requires c =
    let h = pool_inside c.args.guard c.args.slices.now.marks.now c.args.slices.now.pool.now c.in-Some.is c.requires.0 c.requires.1 in
    omega (arith, h.1, length-take-le _ c.args.slices.now.pool.now h.0)

pub returns : goal.returns
returns c = stood_on c.args.guard c.args.slices.now.marks.now c.args.slices.now.pool.now c.in-Some.is c.requires.0 c.requires.1 c.live_landmarks-live.ensures
