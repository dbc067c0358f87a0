use mathlib.Core.Path.{refl, ap}
use Rattle.index.proofs.Decide.{handed_on}
use Rattle.index.specs.Lent.{delete_slices_of, slices_of}
use Rattle.updating.proofs.Empties.{DeleteChecked, deletes_back, deletes_able, deletes_few, deletes_on}
use Rattle.updating.proofs.deleting.delete_slots.Goals.{After-check_delete}
use Rattle.updating.proofs.deleting.delete_slots.Goals as goal

checked : (c : After-check_delete)
    → DeleteChecked c.args.index (slices_of c.read.result) (delete_slices_of c.args.slices.now) c.args.asked.now.names.now c.args.asked.now.repair_beam c.args.asked.now.repair_degree c.args.room c.args.scratch.now c.check_delete.result
checked c = record { read = c.read.ensures; decided = c.check_delete.ensures }

pub returns-in_err-check_delete : goal.returns-in_err-check_delete
returns-in_err-check_delete c =
    rw (handed_on c.from_residual.result c.from_residual.ensures.1) (
      deletes_back (checked (goal.at.returns-in_err-check_delete c).After-check_delete) c.in_err-check_delete.was,
      record { vectors = refl; targets = refl; edges = refl; versions = refl; marks = refl; pool = refl; numbers = refl; summary = refl; weights = refl },
    )

pub delete_batch-emptied-requires : goal.delete_batch-emptied-requires
delete_batch-emptied-requires c =
    deletes_able (checked (goal.at.delete_batch-emptied-requires c).After-check_delete) c.in_ok-check_delete.was

pub with_fewer-requires : goal.with_fewer-requires
with_fewer-requires c =
    let e = c.delete_batch-emptied.ensures in
    deletes_few (checked (goal.at.with_fewer-requires c).After-check_delete) c.in_ok-check_delete.was
    (delete_slices_of c.delete_batch-emptied.new.slices) e.0 e.1

pub returns : goal.returns
returns c =
    let e = c.delete_batch-emptied.ensures in (
      deletes_on (checked (goal.at.returns c).After-check_delete) c.in_ok-check_delete.was
          (delete_slices_of c.delete_batch-emptied.new.slices) e.0 e.1 (ap (λ x. x.now) e.2.pool) (ap (λ x. x.now) e.2.weights) c.with_fewer.ensures,
      e.2,
    )
