use mathlib.Core.Path.{refl, ap}
use borrow.Author.Tests.{not-true, not-false}
use Rattle.std.specs.Prelude.{Ok}
use Rattle.index.specs.Lent.{slices_of, delete_slices_of}
use Rattle.index.proofs.Decide.{handed_on}
use Rattle.guarding.proofs.Tested.{tested_back, tested_ready, tested_on}
use Rattle.guarding.proofs.Guards.{guarded_testable, Reported, guards_back, guards_able, guards_few, guards_applied, guards_deferred}
use Rattle.guarding.proofs.deleting.guarded_slots.Goals.{After-report_by-report}
use Rattle.guarding.proofs.deleting.guarded_slots.Goals as goal

known : (c : After-report_by-report)
    → Reported c.args.index (slices_of c.read-lent.result) (delete_slices_of c.args.slices.now) c.args.asked.now.names.now c.args.asked.now.repair_beam c.args.asked.now.repair_degree c.args.room
    c.args.lists.now.checked.now c.args.lists.now.lost.now c.args.scratch.now c.report_by-report.new.lists.checked.now c.report_by-report.new.lists.lost.now c.report_by-report.new.scratch
    (Ok c.report_by-report.result)
known c =
    let l = c.args.lists.now in
    record {
      read = c.read-lent.ensures;
      tested = tested_on c.args.index (slices_of c.read-lent.result) _ _ c.args.scratch.now c.check_guarded.ensures c.in_ok-guard.was c.args.asked.now.names.now l.checked.now l.lost.now c.report_by-report.ensures.0;
    }

pub returns-in_err-guard : goal.returns-in_err-guard
returns-in_err-guard c =
    let l = c.args.lists.now in
    rw (handed_on c.from_residual.result c.from_residual.ensures.1) (
      guards_back (record {
        read = c.read-lent.ensures;
        tested = tested_back c.args.index (slices_of c.read-lent.result) _ _ c.args.scratch.now c.check_guarded.ensures.0 c.args.asked.now.names.now l.checked.now l.lost.now c.in_err-guard.was;
      }) refl,
      record { vectors = refl; targets = refl; edges = refl; versions = refl; marks = refl; pool = refl; numbers = refl; summary = refl; weights = refl },
      record { checked = refl; lost = refl },
    )

pub report_by-report-requires : goal.report_by-report-requires
report_by-report-requires c =
    let a = c.args.asked.now in
    let l = c.args.lists.now in
    tested_ready c.args.index (slices_of c.read-lent.result) _ _ c.args.scratch.now c.check_guarded.ensures c.in_ok-guard.was a.names.now l.checked.now l.lost.now
    (guarded_testable a.names.now a.repair_beam a.repair_degree c.args.room l.checked.now l.lost.now)

pub delete_batch-emptied-requires : goal.delete_batch-emptied-requires
delete_batch-emptied-requires c = guards_able (known (goal.at.delete_batch-emptied-requires c).After-report_by-report) refl c.report_by-report.auto.scratch

pub with_fewer-requires : goal.with_fewer-requires
with_fewer-requires c =
    let e = c.delete_batch-emptied.ensures in
    guards_few (known (goal.at.with_fewer-requires c).After-report_by-report) refl (delete_slices_of c.delete_batch-emptied.new.slices) e.0 e.1

pub returns-then-not-report : goal.returns-then-not-report
returns-then-not-report c = (
  guards_deferred (known (goal.at.returns-then-not-report c).After-report_by-report) refl (not-true _ c.if-not-report.true),
  record { vectors = refl; targets = refl; edges = refl; versions = refl; marks = refl; pool = refl; numbers = refl; summary = refl; weights = refl },
  c.report_by-report.ensures.1,
)

pub returns : goal.returns
returns c =
    let e = c.delete_batch-emptied.ensures in (
      guards_applied (known (goal.at.returns c).After-report_by-report) refl (delete_slices_of c.delete_batch-emptied.new.slices) e.0 e.1
          (ap (λ x. x.now) e.2.pool) (ap (λ x. x.now) e.2.weights) c.report_by-report.auto.scratch c.delete_batch-emptied.auto.scratch (not-false _ c.if-not-report.false) c.with_fewer.ensures,
      e.2,
      c.report_by-report.ensures.1,
    )
