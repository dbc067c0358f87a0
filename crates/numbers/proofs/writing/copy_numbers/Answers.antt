use native.Mathlib.Omega.{arith}
use Rattle.std.proofs.Common.{◌≡◌, get_or, rules}
use Rattle.numbers.proofs.Writes.{mapped_more, mapped_all}
use Rattle.numbers.proofs.writing.copy_numbers.Goals as goal

pub loop-i-preserved : goal.loop-i-preserved
loop-i-preserved c = let e : c.unwrap_or.result ≡ get_or c.args.numbers.now (get_or c.args.slots.now c.loop-i.i 0) 0 = search rules in
    mapped_more _ c.requires (omega arith) (omega (arith, c.loop-i.invariant.size)) c.loop-i.invariant e

pub returns : goal.returns
returns c = mapped_all _ c.requires (omega (arith, c.loop-i.invariant.size)) c.loop-i.invariant
