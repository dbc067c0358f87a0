use mathlib.Core.Path.{refl}
use Rattle.index.specs.Lent.{slices_of}
use Rattle.guarding.specs.Guarding.{assessing}
use Rattle.index.proofs.Decide.{handed_on}
use Rattle.guarding.proofs.Tested.{tested_back, tested_ready, tested_on}
use Rattle.guarding.proofs.Assesses.{assess_testable, assesses}
use Rattle.guarding.proofs.assessing.assess_delete.Goals as goal

pub returns-in_err-guard : goal.returns-in_err-guard
returns-in_err-guard c =
    let s = slices_of c.args.slices.now in
    let l = c.args.lists.now in
    rw (handed_on c.from_residual.result c.from_residual.ensures.1) (
      assesses c.args.index s (assessing c.args.ids.now) l.checked.now l.lost.now c.args.scratch.now _
          (tested_back c.args.index s _ _ c.args.scratch.now c.check_assess.ensures.0 c.args.ids.now l.checked.now l.lost.now c.in_err-guard.was),
      record { checked = refl; lost = refl },
    )

pub report_by-requires : goal.report_by-requires
report_by-requires c =
    let s = slices_of c.args.slices.now in
    let l = c.args.lists.now in
    tested_ready c.args.index s _ _ c.args.scratch.now c.check_assess.ensures c.in_ok-guard.was c.args.ids.now l.checked.now l.lost.now
    (assess_testable c.args.index s (assessing c.args.ids.now) l.checked.now l.lost.now c.args.scratch.now)

pub returns : goal.returns
returns c =
    let s = slices_of c.args.slices.now in
    let l = c.args.lists.now in (
      assesses c.args.index s (assessing c.args.ids.now) l.checked.now l.lost.now c.args.scratch.now _
          (tested_on c.args.index s _ _ c.args.scratch.now c.check_assess.ensures c.in_ok-guard.was c.args.ids.now l.checked.now l.lost.now c.report_by.ensures.0),
      c.report_by.ensures.1,
    )
