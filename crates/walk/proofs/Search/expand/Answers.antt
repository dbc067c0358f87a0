use mathlib.Core.Path.{refl, ◌∙◌}
use native.Mathlib.Omega.{arith}
use Rattle.walk.proofs.Gathering.{meeting_none, meeting_ready, meeting_part, meeting_done}
use Rattle.walk.proofs.Walking.{expands_inside, expands_goes, expanded_by}
use Rattle.walk.proofs.Search.expand.Goals as goal

pub set_mark-requires : goal.set_mark-requires
set_mark-requires c = omega (arith, c.requires.0.room, expands_inside c.requires.0 c.requires.1 c.id_at-s.ensures)

pub loop-from-init : goal.loop-from-init
loop-from-init c = (meeting_none _ _ (expands_goes c.requires.0 c.requires.1 c.id_at-s.ensures c.set_mark.ensures), record { words = refl; beam = refl })

pub gather-n-requires : goal.gather-n-requires
gather-n-requires c = record {
  marks_in_bounds = (c.loop-from.invariant.0.goes.room, omega (arith, c.requires.2));
  s_in_bounds = (expands_inside c.requires.0 c.requires.1 c.id_at-s.ensures, omega arith, omega arith, omega arith, c.touch_next-ahead.ensures);
}

pub enter_all-requires : goal.enter_all-requires
enter_all-requires c = rw c.loop-from.invariant.1.beam (meeting_ready c.loop-from.invariant.0 c.gather-n.ensures)

pub loop-from-preserved : goal.loop-from-preserved
loop-from-preserved c =
    let v = c.loop-from.invariant in
    (meeting_part v.0 c.gather-n.ensures (omega arith) (rw v.1.beam at c.enter_all.ensures.0), record { words = c.enter_all.ensures.1.words ∙ v.1.words; beam = c.enter_all.ensures.1.beam ∙ v.1.beam })

pub returns : goal.returns
returns c = let v = c.loop-from.invariant in (expanded_by c.requires.0 c.requires.1 c.id_at-s.ensures c.set_mark.ensures _ _ (meeting_done v.0 c.loop-from-test.false), record { words = v.1.words; beam = v.1.beam })

pub returns-2 : goal.returns-2
returns-2 c =
    let v = c.loop-from.invariant in (
      expanded_by c.requires.0 c.requires.1 c.id_at-s.ensures c.set_mark.ensures _ _
          (meeting_done (meeting_part v.0 c.gather-n.ensures refl (rw v.1.beam at c.enter_all.ensures.0)) (omega arith)),
      record { words = c.enter_all.ensures.1.words ∙ v.1.words; beam = c.enter_all.ensures.1.beam ∙ v.1.beam },
    )
