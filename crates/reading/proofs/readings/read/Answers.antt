use Rattle.index.proofs.Decide.{passed, passed_bytes, passed_weighing, passed_rows, handed_on}
use Rattle.reading.proofs.Shown.{reads_back, reads_on}
use Rattle.reading.proofs.readings.read.Goals as goal

pub returns-in_err-check_index : goal.returns-in_err-check_index
returns-in_err-check_index c = rw (handed_on c.from_residual.result c.from_residual.ensures.1) (reads_back c.check_index.ensures c.in_err-check_index.was)

pub answer-requires-clause-bytes : goal.answer-requires-clause-bytes
answer-requires-clause-bytes c = passed_bytes (passed c.check_index.ensures c.in_ok-check_index.was)

pub answer-requires-clause-weighing : goal.answer-requires-clause-weighing
answer-requires-clause-weighing c = passed_weighing (passed c.check_index.ensures c.in_ok-check_index.was)

pub answer-requires-clause-weighted : goal.answer-requires-clause-weighted
answer-requires-clause-weighted c = (passed c.check_index.ensures c.in_ok-check_index.was).weights_long

pub answer-requires-clause-shape : goal.answer-requires-clause-shape
answer-requires-clause-shape c = passed_rows (passed c.check_index.ensures c.in_ok-check_index.was)

pub returns : goal.returns
returns c = reads_on c.check_index.ensures c.in_ok-check_index.was c.answer.ensures
