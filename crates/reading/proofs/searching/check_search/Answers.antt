use Rattle.index.proofs.Decide.{decided_before, handed_on}
use Rattle.reading.specs.Search.{searching_of, found_of}
use Rattle.reading.proofs.Finds.{turns_over, turns_short, turns_none}
use Rattle.reading.proofs.searching.check_search.Goals as goal

pub returns-in_err-check_index : goal.returns-in_err-check_index
returns-in_err-check_index c = rw (handed_on c.from_residual.result c.from_residual.ensures.1) (decided_before c.check_index.ensures _ c.in_err-check_index.was)

pub returns-then-search_over : goal.returns-then-search_over
returns-then-search_over c = turns_over (searching_of c.args.asked.now) (found_of c.args.found.now) c.args.scratch c.check_index.ensures c.in_ok-check_index.was c.min.ensures c.min-room.ensures c.search_over.ensures c.if-search_over.true

pub returns-then-scratch_short : goal.returns-then-scratch_short
returns-then-scratch_short c = turns_short (searching_of c.args.asked.now) (found_of c.args.found.now) c.args.scratch c.check_index.ensures c.in_ok-check_index.was c.min.ensures c.min-room.ensures c.search_over.ensures c.if-search_over.false c.scratch_short.ensures c.if-scratch_short.true

pub returns : goal.returns
returns c = turns_none (searching_of c.args.asked.now) (found_of c.args.found.now) c.args.scratch c.check_index.ensures c.in_ok-check_index.was c.min.ensures c.min-room.ensures c.search_over.ensures c.if-search_over.false c.scratch_short.ensures c.if-scratch_short.false
