use Rattle.std.proofs.Common.{rules}
use Rattle.lines.proofs.Given.{given_none, given_more}
use Rattle.lines.proofs.prepare.words.Goals as goal

pub loop-i-init : goal.loop-i-init
loop-i-init g c = given_none _ _ _

pub loop-i-preserved : goal.loop-i-preserved
loop-i-preserved g c = given_more _ c.in_ok-number.field-0 c.in_ok-word.word c.loop-i.invariant (search rules) (search rules) (search rules) (search rules)
