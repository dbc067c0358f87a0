use Rattle.index.proofs.Decide.{handed_on}
use Rattle.index.proofs.Makes.{judged_before, judged_given, judged_fits, judged_few, judged_weights, judged_rest}
use Rattle.index.specs.Index.{lengths_in}
use Rattle.index.specs.Create.{making_of}
use Rattle.index.proofs.making.check_making.Goals as goal

pub returns-in_err-check_sizes : goal.returns-in_err-check_sizes
returns-in_err-check_sizes c =
    rw (handed_on c.from_residual.result c.from_residual.ensures.1) (judged_before (making_of c.args.given.now) (lengths_in c.args.lent) c.check_sizes.ensures c.in_err-check_sizes.was)

pub returns-then-given_bad : goal.returns-then-given_bad
returns-then-given_bad c = judged_given (making_of c.args.given.now) (lengths_in c.args.lent) c.check_sizes.ensures c.in_ok-check_sizes.was c.given_bad.ensures c.if-given_bad.true

pub weights_bad-requires : goal.weights_bad-requires
weights_bad-requires c = judged_few (making_of c.args.given.now) (lengths_in c.args.lent) c.check_sizes.ensures c.in_ok-check_sizes.was c.given_bad.ensures c.if-given_bad.false

pub returns-then-weights_bad : goal.returns-then-weights_bad
returns-then-weights_bad c =
    judged_weights (making_of c.args.given.now) (lengths_in c.args.lent) c.check_sizes.ensures c.in_ok-check_sizes.was c.given_bad.ensures c.if-given_bad.false c.weights_bad.ensures c.if-weights_bad.true

pub check_given-requires : goal.check_given-requires
check_given-requires c = judged_fits (making_of c.args.given.now) (lengths_in c.args.lent) c.check_sizes.ensures c.in_ok-check_sizes.was c.given_bad.ensures c.if-given_bad.false

pub returns : goal.returns
returns c = judged_rest (making_of c.args.given.now) (lengths_in c.args.lent) c.check_sizes.ensures c.in_ok-check_sizes.was c.given_bad.ensures c.if-given_bad.false c.weights_bad.ensures c.if-weights_bad.false c.check_given.ensures
