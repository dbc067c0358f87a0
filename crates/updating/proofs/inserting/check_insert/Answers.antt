use mathlib.Core.Path.{sym}
use lib.Seq.{length-take-le}
use Rattle.index.specs.Lent.{slices_of}
use Rattle.index.proofs.Decide.{handed_on}
use Rattle.numbers.proofs.Listing.{listed_front}
use Rattle.updating.specs.Insert.{inserting_of}
use Rattle.updating.proofs.Fills.{Asked, turns_before, turns_live, turns_listed, turns_over, turns_short, turns_left, turns_few, turns_taken, turns_none}
use Rattle.updating.proofs.inserting.check_insert.Goals.{After-check_index}
use Rattle.updating.proofs.inserting.check_insert.Goals as goal

asked : (c : After-check_index) → Asked c.args.index (slices_of c.args.slices.now) (inserting_of c.args.asked.now) c.args.slots c.whole-n.result c.room_or_numbers_wrong-wrong.result c.check_index.result
asked c = record { count = c.whole-n.ensures; room = c.room_or_numbers_wrong-wrong.ensures; decided = c.check_index.ensures }

pub returns-in_err-check_index : goal.returns-in_err-check_index
returns-in_err-check_index c = rw (handed_on c.from_residual.result c.from_residual.ensures.1) (turns_before c.args.scratch (asked (goal.at.returns-in_err-check_index c).After-check_index) c.in_err-check_index.was)

pub returns-then-asked-gt-BEAM : goal.returns-then-asked-gt-BEAM
returns-then-asked-gt-BEAM c = turns_over c.args.scratch (asked (goal.at.returns-then-asked-gt-BEAM c).After-check_index) c.in_ok-check_index.was c.if-asked-gt-BEAM.true

pub returns-then-scratch_short : goal.returns-then-scratch_short
returns-then-scratch_short c = turns_short c.args.scratch (asked (goal.at.returns-then-scratch_short c).After-check_index) c.in_ok-check_index.was c.if-asked-gt-BEAM.false c.scratch_short.ensures c.if-scratch_short.true

pub returns-then-bytes-n : goal.returns-then-bytes-n
returns-then-bytes-n c = turns_left c.args.scratch (asked (goal.at.returns-then-bytes-n c).After-check_index) c.in_ok-check_index.was c.if-asked-gt-BEAM.false c.scratch_short.ensures c.if-scratch_short.false c.if-bytes-n.true

pub too_few-requires : goal.too_few-requires
too_few-requires c = turns_live c.args.scratch (asked (goal.at.too_few-requires c).After-check_index) c.in_ok-check_index.was

pub returns-then-too_few : goal.returns-then-too_few
returns-then-too_few c = turns_few c.args.scratch (asked (goal.at.returns-then-too_few c).After-check_index) c.in_ok-check_index.was c.if-asked-gt-BEAM.false c.scratch_short.ensures c.if-scratch_short.false c.if-bytes-n.false c.too_few.ensures c.if-too_few.true

pub slice_bounds-labels-end : goal.slice_bounds-labels-end
slice_bounds-labels-end c =
    sym (length-take-le c.args.index.live c.args.slices.now.summary.now (turns_listed c.args.scratch (asked (goal.at.slice_bounds-labels-end c).After-check_index) c.in_ok-check_index.was c.if-asked-gt-BEAM.false c.scratch_short.ensures c.if-scratch_short.false c.if-bytes-n.false c.too_few.ensures c.if-too_few.false).0.placed.long)

pub invariant_of-labels : goal.invariant_of-labels
invariant_of-labels c = record { listed = listed_front (turns_listed c.args.scratch (asked (goal.at.invariant_of-labels c).After-check_index) c.in_ok-check_index.was c.if-asked-gt-BEAM.false c.scratch_short.ensures c.if-scratch_short.false c.if-bytes-n.false c.too_few.ensures c.if-too_few.false).0 }

pub taken-requires : goal.taken-requires
taken-requires c = (turns_listed c.args.scratch (asked (goal.at.taken-requires c).After-check_index) c.in_ok-check_index.was c.if-asked-gt-BEAM.false c.scratch_short.ensures c.if-scratch_short.false c.if-bytes-n.false c.too_few.ensures c.if-too_few.false).1

pub returns-then-taken : goal.returns-then-taken
returns-then-taken c = turns_taken c.args.scratch (asked (goal.at.returns-then-taken c).After-check_index) c.in_ok-check_index.was c.if-asked-gt-BEAM.false c.scratch_short.ensures c.if-scratch_short.false c.if-bytes-n.false c.too_few.ensures c.if-too_few.false c.taken.ensures c.if-taken.true

pub returns : goal.returns
returns c = turns_none c.args.scratch (asked (goal.at.returns c).After-check_index) c.in_ok-check_index.was c.if-asked-gt-BEAM.false c.scratch_short.ensures c.if-scratch_short.false c.if-bytes-n.false c.too_few.ensures c.if-too_few.false c.taken.ensures c.if-taken.false
