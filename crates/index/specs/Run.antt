-- A run of a call on an index by value and its nine slices, as the theorem over runs takes it. Assumes nothing.
use Rattle.std.specs.Prelude.{ℕ, List, []}
use Rattle.slots.specs.Sizes.{Slices}
use Rattle.index.specs.declared.Index.{Index}
use Rattle.calls.specs.Calls.{Operation, Answer}
use Rattle.calls.specs.Outputs.{Outputs, no_outputs}
use Rattle.calls.specs.Runs.{Run}
use Rattle.index.specs.Index.{state_of}

-- a call that may change the index: index, slices, outputs and scratch before it, and with a prime after it
abbrev pub changing : Index → Slices → Operation → Outputs → List ℕ → Index → Slices → Outputs → List ℕ → Answer → Run
changing index s operation outputs scratch index' s' outputs' scratch' answer =
    record {
      operation = operation;
      before = state_of index s;
      after = state_of index' s';
      answer = answer;
      outputs_before = outputs;
      outputs_after = outputs';
      scratch_before = scratch;
      scratch_after = scratch';
    }

-- one that leaves it as it is
abbrev pub looking : Index → Slices → Operation → Outputs → List ℕ → Outputs → List ℕ → Answer → Run
looking index s operation outputs scratch outputs' scratch' answer = changing index s operation outputs scratch index s outputs' scratch' answer

-- one that takes neither outputs nor scratch
abbrev pub reading : Index → Slices → Operation → Answer → Run
reading index s operation answer = looking index s operation no_outputs [] no_outputs [] answer
