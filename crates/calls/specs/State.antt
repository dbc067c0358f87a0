-- What a call finds and leaves, of the stored index and of the plain one (document 01: the plain book). Assumes nothing.
use Rattle.std.specs.Prelude.{ℕ, ◌-◌, List, [], ◌++◌, length, get_or, replicate}
use Rattle.lists.specs.Lists.{put_front}
use Rattle.vectors.specs.Distance.{distance}
use Rattle.slots.specs.Sizes.{Sizes, Slices, limits}
use Rattle.slots.specs.View.{View, live_slots}
use Rattle.slots.specs.Ops.{Ops}
use Rattle.slots.specs.Store.{Store, arrays, new_arrays, store_ops}
use Rattle.slots.specs.Plain.{new_plain, plain_ops}
use Rattle.numbers.specs.Numbers.{summary_of}
use Rattle.guard.specs.Guard.{Config, Guard, off, on, pool_of}
use Rattle.calls.specs.Calls.{Making}

pub record State (B : Type 0) : Type 0 where
  pub graph : B
  -- the live count
  pub live : ℕ
  pub guard : Guard
  -- the words of the slice that holds the landmark pool; the plain index has no words but the pool
  pub pool : List ℕ
  -- the figure number of each slot, and the summary: beside the graph, and alike in both (document 02, E1)
  pub numbers : List ℕ
  pub summary : List ℕ
  -- the weights, of which the graph has the distance that they make (E3)
  pub weights : List ℕ

-- what an app holds of an index by value
pub record Value : Type 0 where
  pub sizes : Sizes
  pub entry : ℕ
  pub live : ℕ
  pub guard : Guard

-- the stored index that an app has: by value, and in nine slices
abbrev pub state : Value → Slices → State Store
state v s =
    let z = v.sizes in
    record {
      graph = record {
        arrays = arrays (distance s.weights) z.dim z.degree s.vectors s.targets s.edges s.versions s.marks;
        capacity = z.capacity;
        alpha = z.alpha;
        entry = v.entry;
      };
      live = v.live;
      guard = v.guard;
      pool = s.pool;
      numbers = s.numbers;
      summary = s.summary;
      weights = s.weights;
    }

-- what differs between the stored index and the plain one
pub record Kind (B : Type 0) : Type 0 where
  pub ops : Ops B
  pub new : Making → B
  -- the pool after making, and when a new one is written
  pub no_pool : List ℕ
  pub put_pool : List ℕ → List ℕ → List ℕ
  pub version_of : B → ℕ → ℕ

-- the words past the pool stay
unfoldable pub stored : Kind Store
stored = record {
  ops = store_ops;
  new = λ m. record { arrays = new_arrays m.sizes (distance m.weights) m.count m.bytes m.rows; capacity = m.sizes.capacity; alpha = m.sizes.alpha; entry = m.entry };
  no_pool = replicate limits.pool 0;
  put_pool = λ words pool. put_front pool words;
  version_of = λ b s. get_or b.arrays.versions s 0;
}

-- no versions
unfoldable pub plain : Kind View
plain = record {
  ops = plain_ops;
  new = λ m. new_plain m.sizes (distance m.weights) m.count m.bytes m.rows m.entry;
  no_pool = [];
  put_pool = λ words pool. pool;
  version_of = λ v s. 0;
}

module _ {B : Type 0} (K : Kind B) where
  abbrev pub view_of : State B → View
  view_of w = K.ops.view w.graph

  -- what a call sees: the view of the graph, and the pool alone
  unfoldable pub shown : State B → State View
  shown w = record { graph = view_of w; live = w.live; guard = w.guard; pool = pool_of w.guard w.pool; numbers = w.numbers; summary = w.summary; weights = w.weights }

  -- the summary that goes with a graph and numbers
  abbrev pub summary_for : B → List ℕ → List ℕ
  summary_for b numbers = let v = K.ops.view b in summary_of v.live v.sizes.capacity numbers

  -- ---- what a call leaves is what it found, or is made in one of these three ways

  unfoldable pub made : Making → State B
  made m =
      let b = K.new m in
      let numbers = m.numbers ++ replicate (m.sizes.capacity - m.count) 0 in
      record { graph = b; live = length (live_slots (K.ops.view b)); guard = off; pool = K.no_pool; numbers = numbers; summary = summary_for b numbers; weights = m.weights }

  -- another graph and other numbers; the live count counts its live marks
  unfoldable pub with_graph : State B → B → List ℕ → State B
  with_graph w b numbers =
      record { graph = b; live = length (live_slots (K.ops.view b)); guard = w.guard; pool = w.pool; numbers = numbers; summary = summary_for b numbers; weights = w.weights }

  -- another guard and its pool
  unfoldable pub with_guard : State B → Config → List ℕ → State B
  with_guard w c pool =
      record { graph = w.graph; live = w.live; guard = on c (length pool); pool = K.put_pool w.pool pool; numbers = w.numbers; summary = w.summary; weights = w.weights }
