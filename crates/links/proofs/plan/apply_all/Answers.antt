use mathlib.Core.Path.{◌∙◌}
use native.Mathlib.Omega.{arith}
use Rattle.links.proofs.Linking.{linked_marks}
use Rattle.links.proofs.Planning.{plans_next, plans_more}
use Rattle.links.proofs.plan.apply_all.Goals as goal

pub apply_plan-requires : goal.apply_plan-requires
apply_plan-requires c =
    let f = c.loop-j.invariant.0 in
    let r = plans_next c.args.table.degree c.args.table.entry f c.requires.1 c.loop-j-test.true in
    (rw (linked_marks f) c.requires.0, r.0, r.1, rw f.same.slices.degree (c.loop-j.auto.words ∙ c.requires.2), c.loop-j.invariant.1)

pub loop-j-preserved : goal.loop-j-preserved
loop-j-preserved c = (plans_more c.args.table.degree c.args.table.entry c.loop-j.invariant.0 c.requires.1 c.loop-j-test.true c.apply_plan.ensures, omega arith)
