use Rattle.std.proofs.Common.{rules, refl, arith}
use Rattle.text.proofs.Digits.{leads_none, leads_more, no_digit, not_digit, follows}
use Rattle.text.proofs.leading.Goals as goal
use Rattle.text.proofs.leading.Goals.{else-loop-byte-test, then-loop-byte-test+then-not-is_ascii_digit}

pub loop-byte-init : goal.loop-byte-init
loop-byte-init c = (refl, leads_none c.args.text.now)

pub overflow_mul-next : goal.overflow_mul-next
overflow_mul-next c = omega (arith, c.from.ensures, c.loop-byte.invariant.1.few)

pub overflow_add-next : goal.overflow_add-next
overflow_add-next c = omega (arith, c.from.ensures, c.from-in-loop-byte.ensures, c.loop-byte.invariant.1.few, c.type_inv.text c.loop-byte.byte-index)

pub loop-byte-preserved : goal.loop-byte-preserved
loop-byte-preserved c = (omega (arith, c.loop-byte.invariant.0), leads_more c.loop-byte-test.true (search rules) (search rules) (search rules) c.loop-byte.invariant.1)

pub returns : goal.returns
returns c =
    let digits = c.loop-byte.invariant.1 in
    rw c.loop-byte.invariant.0 (elim c.loop-byte-test.branch [
      | else-loop-byte-test w ↦ follows digits (omega (arith, c.loop-byte.invariant.0, c.if-end-eq0.false)) (search rules) (no_digit c.args.text.now w.loop-byte-test.false)
      | then-loop-byte-test+then-not-is_ascii_digit w ↦ follows digits (omega (arith, c.loop-byte.invariant.0, c.if-end-eq0.false)) (omega (arith, w.loop-byte-test.true)) (not_digit (search rules))
    ])
