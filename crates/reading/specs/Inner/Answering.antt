-- What is read of an index that no test turns back. Assumes nothing.
use Rattle.std.specs.Prelude.{Ok, ◌≡◌}
use Rattle.slots.specs.Sizes.{Slices}
use Rattle.index.specs.declared.Index.{Index}
use Rattle.reading.specs.declared.Reading.{Reading}
use Rattle.reading.specs.declared.Value.{Value}
use Rattle.calls.specs.State.{stored}
use Rattle.calls.specs.Step.{reading}
use Rattle.index.specs.Index.{state_of}
use Rattle.reading.specs.Read.{reading_of, answer_of}

-- where no test holds, the rows, versions, marks and numbers decide
pub record Answers (index : Index) (s : Slices) (q : Reading) (r : Value) : Type 0 where
  pub does : answer_of (Ok r) ≡ reading stored (state_of index s) (reading_of q)
