use native.Mathlib.Omega.{arith}
use Rattle.deletion.proofs.Acting.{finishing_asks, finishing_more, finishing_done}
use Rattle.deletion.proofs.graph.GraphMut.finish_all.Goals as goal

pub finish-requires : goal.finish-requires
finish-requires c = finishing_asks c.loop-k.invariant.finishing c.requires.1 c.loop-k-test.true c.id_at-s.ensures

pub loop-k-preserved : goal.loop-k-preserved
loop-k-preserved c =
    let i = c.loop-k.invariant in
    record {
      finishing = finishing_more i.finishing c.requires.1 c.loop-k-test.true c.id_at-s.ensures c.finish.ensures (omega arith) (omega arith) (omega arith);
      same = record { space = i.same.space; degree = i.same.degree; targets = i.same.targets; edges = i.same.edges; versions = i.same.versions; marks = i.same.marks };
    }

pub returns : goal.returns
returns c = (finishing_done c.loop-k.invariant.finishing c.loop-k-test.false, c.loop-k.invariant.same)
