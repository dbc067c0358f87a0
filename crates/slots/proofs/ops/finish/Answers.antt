use Rattle.std.proofs.Common.{rules}
use Rattle.slots.proofs.Done.{finished_by}
use Rattle.slots.proofs.ops.finish.Goals as goal

pub returns : goal.returns
returns c = let t = c.write.ensures.1.targets in
    let e = c.write.ensures.1.edges in
    let f = finished_by c.next_version.ensures c.write.ensures.0 in
    search rules
