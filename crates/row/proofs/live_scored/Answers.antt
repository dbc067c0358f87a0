use Rattle.row.proofs.Scored.{scoring_none, scoring_near, scoring_live, scoring_dead, scoring_done}
use Rattle.row.proofs.live_scored.Goals as goal
use Rattle.row.proofs.live_scored.Goals.{in-Some, in_default}

pub loop-place-init : goal.loop-place-init
loop-place-init c = scoring_none _ _ _

pub slot_distance-dist-requires : goal.slot_distance-dist-requires
slot_distance-dist-requires c =
    let g = c.args.graph.now in
    scoring_near c.loop-place.invariant g.shape c.requires.0 c.loop-place-test.true (c.live_at.ensures _ _ _) g.bytes c.in-Some.is

pub loop-place-preserved : goal.loop-place-preserved
loop-place-preserved c =
    let g = c.args.graph.now in
    elim c.match-live_at.branch [
      | in-Some w ↦ rw (w.list-is, w.n-is, w.put.ensures)
          (scoring_live c.loop-place.invariant g.shape c.requires.0 c.loop-place-test.true (c.live_at.ensures _ _ _) w.in-Some.is w.slot_distance-dist.ensures c.requires.1)
      | in_default w ↦ rw (w.list-is, w.n-is)
          (scoring_dead c.loop-place.invariant g.shape c.requires.0 c.loop-place-test.true (c.live_at.ensures _ _ _) w.in_default.is)
    ]

pub returns : goal.returns
returns c = scoring_done c.loop-place.invariant c.loop-place-test.false
