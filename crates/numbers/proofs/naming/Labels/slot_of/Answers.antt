use mathlib.Core.Path.{◌∙◌}
use native.Mathlib.Omega.{arith}
use Rattle.numbers.proofs.Loops.{slot_zero, slot_absent, slot_inside, slot_met}
use Rattle.numbers.proofs.naming.Labels.slot_of.Goals as goal

pub returns-then-number-eq0 : goal.returns-then-number-eq0
returns-then-number-eq0 c = slot_zero _ c.if-number-eq0.true

pub returns-in_err-i : goal.returns-in_err-i
returns-in_err-i c = c.from_residual.ensures ∙ slot_absent c.args.self.now.listed c.in_err-i.ensures

pub offset_bounds-self-i : goal.offset_bounds-self-i
offset_bounds-self-i c = let h = slot_inside c.args.self.now.listed c.in_ok-i.ensures in omega arith

pub bounds-self-i : goal.bounds-self-i
bounds-self-i c = slot_inside c.args.self.now.listed c.in_ok-i.ensures

pub returns : goal.returns
returns c = slot_met c.args.self.now.listed c.in_ok-i.ensures c.if-number-eq0.false
