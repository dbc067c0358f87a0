use mathlib.Core.Path.{◌≡◌}
use native.Mathlib.Omega.{arith}
use lib.ListN.{take, length-take}
use Rattle.deletion.proofs.Records.{records_more, records_front}
use Rattle.deletion.proofs.stats.write_stats.Goals as goal

pub loop-i-preserved : goal.loop-i-preserved
loop-i-preserved c = rw (c.loop-i.invariant, c.record_at.ensures) (records_more c.args.words.now c.args.at (take c.args.n c.args.stats.now) c.loop-i.i (omega arith))

pub returns : goal.returns
returns c =
    let e : c.loop-i.i ≡ c.args.n = omega (arith, length-take c.args.n c.args.stats.now) in
    rw c.loop-i.invariant (rw e (records_front c.args.words.now c.args.at c.args.n c.args.stats.now (omega arith)))
