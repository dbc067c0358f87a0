use Rattle.std.proofs.lemmas.List.{drop_more}
use Rattle.walk.proofs.Gathering.{entering_more}
use Rattle.walk.proofs.Walking.{same_words}
use Rattle.walk.proofs.Search.enter_all.Goals as goal

pub loop-id-preserved : goal.loop-id-preserved
loop-id-preserved c =
    let v = c.loop-id.invariant in
    (entering_more v.0 (drop_more _ _ 0 c.loop-id-test.true) c.query_distance-dist.ensures (rw v.1.beam at c.enter.ensures.0), same_words v.1 c.enter.ensures.1)
