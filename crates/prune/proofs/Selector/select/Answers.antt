use mathlib.Core.Path.{refl, sym}
use Rattle.candidates.proofs.Words.{cands_length}
use Rattle.prune.proofs.Selecting.{first_threshold, scanning_none, scanning_more, passing_none, passing_more, passing_full, passing_last, passing_done, same_none, same_then}
use Rattle.prune.proofs.Selector.select.Goals as goal

pub passes-init : goal.passes-init
passes-init g c = (passing_none _ _ _ _ _ _ _ _ first_threshold refl, same_none _)

pub loop-i-init : goal.loop-i-init
loop-i-init g c = (scanning_none _ _ _ _ _ _ _ _ _ _ (sym (cands_length c.args.self.now.list.now 0 _)) c.passes-test.true c.passes.invariant.0.room c.passes.invariant.0.sizes, c.passes.invariant.1)

pub loop-i-preserved : goal.loop-i-preserved
loop-i-preserved g c =
    let same = c.loop-i.invariant.1 in
    (scanning_more c.loop-i.invariant.0 c.loop-i-test.true c.if-m-degree.false (rw (same.alpha, same.space, same.list, same.count) at c.consider-m.ensures.0), same_then same c.consider-m.ensures.1)

pub passes-preserved : goal.passes-preserved
passes-preserved g c = (passing_more c.passes.invariant.0 c.loop-i.invariant.0 c.passes-test.true c.loop-i-test.false c.if-threshold-alpha.false c.following-threshold.ensures, c.loop-i.invariant.1)

pub returns-after-passes : goal.returns-after-passes
returns-after-passes g c = (passing_done c.passes.invariant.0 c.passes-test.false, c.passes.invariant.1)

pub returns-then-m-degree : goal.returns-then-m-degree
returns-then-m-degree g c = (passing_full c.passes.invariant.0 c.loop-i.invariant.0 c.if-m-degree.true, c.loop-i.invariant.1)

pub returns-then-threshold-alpha : goal.returns-then-threshold-alpha
returns-then-threshold-alpha g c = (passing_last c.passes.invariant.0 c.loop-i.invariant.0 c.loop-i-test.false c.if-threshold-alpha.true, c.loop-i.invariant.1)
