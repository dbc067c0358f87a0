use Rattle.index.proofs.Decide.{index_refused, decided_wrong, decided_weights, decided_index, decided_none, weights_few, lent_alike, handed_on}
use Rattle.index.specs.Lent.{slices_of}
use Rattle.index.proofs.refusals.check_index.Goals as goal

pub returns-in_err-check_sizes : goal.returns-in_err-check_sizes
returns-in_err-check_sizes c =
    rw (handed_on c.from_residual.result c.from_residual.ensures.1) (index_refused c.args.index (slices_of c.args.slices.now) c.check_sizes.ensures c.lengths.ensures c.in_err-check_sizes.was)

pub returns-then-wrong : goal.returns-then-wrong
returns-then-wrong c = decided_wrong c.args.index (slices_of c.args.slices.now) c.check_sizes.ensures c.lengths.ensures c.in_ok-check_sizes.was c.if-wrong.true

pub weights_bad-requires : goal.weights_bad-requires
weights_bad-requires c = weights_few c.args.index (slices_of c.args.slices.now) c.check_sizes.ensures c.lengths.ensures c.in_ok-check_sizes.was

pub returns-then-weights_bad : goal.returns-then-weights_bad
returns-then-weights_bad c = decided_weights c.args.index (slices_of c.args.slices.now) c.check_sizes.ensures c.lengths.ensures c.in_ok-check_sizes.was c.if-wrong.false c.weights_bad.ensures c.if-weights_bad.true

pub index_bad-requires : goal.index_bad-requires
index_bad-requires c = lent_alike c.args.index (slices_of c.args.slices.now) c.check_sizes.ensures c.lengths.ensures c.in_ok-check_sizes.was

pub returns-then-index_bad : goal.returns-then-index_bad
returns-then-index_bad c =
    decided_index c.args.index (slices_of c.args.slices.now) c.check_sizes.ensures c.lengths.ensures c.in_ok-check_sizes.was c.if-wrong.false c.weights_bad.ensures c.if-weights_bad.false c.index_bad.ensures c.if-index_bad.true

pub returns : goal.returns
returns c =
    decided_none c.args.index (slices_of c.args.slices.now) c.check_sizes.ensures c.lengths.ensures c.in_ok-check_sizes.was c.if-wrong.false c.weights_bad.ensures c.if-weights_bad.false c.index_bad.ensures c.if-index_bad.false
