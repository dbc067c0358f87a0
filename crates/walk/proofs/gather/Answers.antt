use mathlib.Core.Path.{◌≡◌, refl}
use native.Mathlib.Omega.{arith}
use Rattle.lists.proofs.Parts.{fits_in}
use Rattle.slots.proofs.Places.{ref_inside}
use Rattle.walk.proofs.Gathering.{gathers_new, gathers_pass, touched_none}
use Rattle.walk.proofs.gather.Goals as goal
use Rattle.walk.proofs.gather.Goals.{in-Some, in_default}

pub add-touched-requires-clause-has_vector : goal.add-touched-requires-clause-has_vector
add-touched-requires-clause-has_vector c = fits_in _ _ _ _ (ref_inside _ _ _ (c.unmet_at.ensures.found _ c.in-Some.is).0 refl) c.args.graph.now.bytes.long

pub add-touched-requires-clause-id_in_bounds : goal.add-touched-requires-clause-id_in_bounds
add-touched-requires-clause-id_in_bounds c =
    let u = c.unmet_at.ensures.found _ c.in-Some.is in
    (omega (arith, ref_inside _ _ _ u.0 refl, c.requires.marks_in_bounds.0), u.1, omega (arith, c.requires, c.loop-place.invariant.1.few))

pub loop-place-preserved : goal.loop-place-preserved
loop-place-preserved c =
    let s = c.requires.s_in_bounds in
    let v = c.loop-place.invariant in
    elim c.match-unmet_at.branch [
      | in-Some w ↦ (
        rw (w.n-is, w.touched-is) (omega (arith, v.0, w.add-touched.ensures.1)),
        rw (w.scratch-is, w.fresh-is, w.n-is) (gathers_new c.args.graph.now.shape s.0 (omega (arith, s)) v.1 c.unmet_at.ensures w.in-Some.is (omega (arith, c.requires, v.1.few)) w.add-touched.ensures.0),
      )
      | in_default w ↦ (rw (w.n-is, w.touched-is) v.0, rw (w.scratch-is, w.fresh-is, w.n-is) (gathers_pass c.args.graph.now.shape s.0 (omega (arith, s)) v.1 c.unmet_at.ensures w.in_default.is))
    ]

pub returns : goal.returns
returns c = let e : c.loop-place.place ≡ c.args.to = omega (arith, c.requires.s_in_bounds) in
    rw (touched_none _ _ c.loop-place.invariant.0 (omega (arith, c.loop-place.invariant.1.few, c.requires.s_in_bounds))) (rw e at c.loop-place.invariant.1)
