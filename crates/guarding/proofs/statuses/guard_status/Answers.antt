use Rattle.index.proofs.Decide.{handed_on}
use Rattle.index.specs.Lent.{slices_of}
use Rattle.guarding.proofs.Stands.{stands_back, stands_ready, stands_on}
use Rattle.guarding.proofs.statuses.guard_status.Goals as goal

pub returns-in_err-check_index : goal.returns-in_err-check_index
returns-in_err-check_index c =
    rw (handed_on c.from_residual.result c.from_residual.ensures.1) (stands_back c.args.index (slices_of c.args.slices.now) c.check_index.ensures c.in_err-check_index.was)

pub status_of-requires : goal.status_of-requires
status_of-requires c = stands_ready c.args.index (slices_of c.args.slices.now) c.check_index.ensures c.in_ok-check_index.was

pub returns : goal.returns
returns c = stands_on c.args.index (slices_of c.args.slices.now) c.check_index.ensures c.in_ok-check_index.was c.status_of.ensures
