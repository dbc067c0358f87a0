-- The index by value with its nine lent slices, as the definitions' state; the size answer. Assumes nothing.
use Rattle.std.specs.Prelude.{ℕ, cond, Float, Option, Some, None, Result, Ok, Err}
use Rattle.vectors.specs.Distance.{distance}
use Rattle.slots.specs.Sizes.{Sizes, Slices, limits, sizes_ok}
use Rattle.slots.specs.Sizes as Sizes
use Rattle.slots.specs.Scratch.{size_answer}
use Rattle.slots.specs.Store.{Store, Arrays, arrays}
use Rattle.guard.specs.Guard.{off, on}
use Rattle.guard.specs.Guard as Guards
use Rattle.guard.specs.Lent.{config_of}
use Rattle.index.specs.declared.Index.{Index}
use Rattle.index.specs.declared.Lengths.{Lengths}
use Rattle.index.specs.declared.Guard.{Guard}
use Rattle.index.specs.declared.Refusal.{Refusal}
use Rattle.calls.specs.State.{State, Value, state}

-- the size answer; 1 outside the ranges
unfoldable pub words_for : Sizes → Result ℕ Refusal
words_for z = cond (sizes_ok limits z) (Ok (size_answer z.capacity)) (Err Refusal.Sizes)

-- sizes, one by one
abbrev pub sizes : ℕ → ℕ → ℕ → Float → Sizes
sizes dim capacity degree alpha = record { dim = dim; capacity = capacity; degree = degree; alpha = alpha }

abbrev pub sizes_of : Index → Sizes
sizes_of i = sizes i.dim i.capacity i.degree i.alpha

-- the lengths that a struct holds
abbrev pub lengths_in : Lengths → Sizes.Lengths
lengths_in l =
    record {
      vectors = l.vectors;
      targets = l.targets;
      edges = l.edges;
      versions = l.versions;
      marks = l.marks;
      pool = l.pool;
      numbers = l.numbers;
      summary = l.summary;
      weights = l.weights;
    }

unfoldable pub guard_of : Option Guard → Guards.Guard
guard_of None = off
guard_of (Some g) = on (config_of g.config) g.pool

-- the index in the definitions' terms
abbrev pub index_value : Index → Value
index_value i = record { sizes = sizes_of i; entry = i.entry; live = i.live; guard = guard_of i.guard }

unfoldable pub state_of : Index → Slices → State Store
state_of i s = state (index_value i) s

-- the graph in its slices
abbrev pub arrays_of : Index → Slices → Arrays
arrays_of i s = arrays (distance s.weights) i.dim i.degree s.vectors s.targets s.edges s.versions s.marks
