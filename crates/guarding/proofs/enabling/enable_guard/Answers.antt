use mathlib.Core.Path.{refl}
use Rattle.index.specs.Lent.{slices_of, enable_slices_of}
use Rattle.index.proofs.Decide.{handed_on}
use Rattle.guard.specs.Lent.{config_of}
use Rattle.guarding.proofs.Enables.{EnableChecked, enables_back, marks_few, weights_ready, pool_ready, status_ready, enables_on}
use Rattle.guarding.proofs.enabling.enable_guard.Goals.{After-check_enable}
use Rattle.guarding.proofs.enabling.enable_guard.Goals as goal

checked : (c : After-check_enable) → EnableChecked c.args.index (slices_of c.read.result) (enable_slices_of c.args.slices.now) (config_of c.args.config) c.args.scratch.now c.check_enable.result
checked c = record { read = c.read.ensures; decided = c.check_enable.ensures }

pub returns-in_err-check_enable : goal.returns-in_err-check_enable
returns-in_err-check_enable c =
    rw (handed_on c.from_residual.result c.from_residual.ensures.1) (
      enables_back (checked (goal.at.returns-in_err-check_enable c).After-check_enable) c.in_err-check_enable.was,
      record { vectors = refl; targets = refl; edges = refl; versions = refl; marks = refl; pool = refl; numbers = refl; summary = refl; weights = refl },
    )

pub residual_entry-requires : goal.residual_entry-requires
residual_entry-requires c = marks_few (checked (goal.at.residual_entry-requires c).After-check_enable) c.in_ok-check_enable.was

pub space-space-requires-clause-weighing : goal.space-space-requires-clause-weighing
space-space-requires-clause-weighing c = (weights_ready (checked (goal.at.space-space-requires-clause-weighing c).After-check_enable) c.in_ok-check_enable.was).0

pub space-space-requires-clause-weighted : goal.space-space-requires-clause-weighted
space-space-requires-clause-weighted c = (weights_ready (checked (goal.at.space-space-requires-clause-weighted c).After-check_enable) c.in_ok-check_enable.was).1

pub choose_pool-n-requires : goal.choose_pool-n-requires
choose_pool-n-requires c =
    rw (c.space-space.ensures.measure, c.space-space.ensures.dim, c.space-space.ensures.vectors) (pool_ready (checked (goal.at.choose_pool-n-requires c).After-check_enable) c.in_ok-check_enable.was c.residual_entry.ensures c.unwrap_or-start.ensures c.normalized-config.ensures)

pub status_of-status-requires : goal.status_of-status-requires
status_of-status-requires c =
    status_ready (checked (goal.at.status_of-status-requires c).After-check_enable) c.in_ok-check_enable.was c.residual_entry.ensures c.unwrap_or-start.ensures c.normalized-config.ensures
    (rw (c.space-space.ensures.measure, c.space-space.ensures.dim, c.space-space.ensures.vectors) at c.choose_pool-n.ensures) c.with_guard-new.ensures c.read-2.ensures c.choose_pool-n.auto.pool

pub returns : goal.returns
returns c = (
  enables_on (checked (goal.at.returns c).After-check_enable) c.in_ok-check_enable.was c.residual_entry.ensures c.unwrap_or-start.ensures c.normalized-config.ensures
      (rw (c.space-space.ensures.measure, c.space-space.ensures.dim, c.space-space.ensures.vectors) at c.choose_pool-n.ensures) c.with_guard-new.ensures c.read-2.ensures c.status_of-status.ensures,
  record { vectors = refl; targets = refl; edges = refl; versions = refl; marks = refl; pool = refl; numbers = refl; summary = refl; weights = refl },
)
