-- The graph of the plain index (document 01: the plain book): no versions, no blanks, just what a view shows. Its live count, guard and pool stand
-- beside it. Assumes nothing.
use Rattle.std.specs.Prelude.{ℕ, ◌-◌, ◌*◌, Bool, true, false, cond, not, ◌&&◌, List, [], ◌++◌, take, replicate, ◌==◌, nat_lt}
use Rattle.lists.specs.Lists.{filter, part}
use Rattle.vectors.specs.Space.{Measure}
use Rattle.slots.specs.Sizes.{Sizes}
use Rattle.slots.specs.View.{View}
use Rattle.slots.specs.Store.{blank}
use Rattle.slots.specs.Ops.{Ops}

-- x at the slot s, where the index has it
abbrev pub at : {A : Type 0} → ℕ → (ℕ → A) → ℕ → A → ℕ → A
at capacity f s x t = cond (nat_lt s capacity && t == s) x (f t)

abbrev pub other_than : ℕ → ℕ → Bool
other_than s t = not (t == s)

-- a view with other marks, vectors and rows
abbrev pub with_slots : View → (ℕ → Bool) → (ℕ → List ℕ) → (ℕ → List ℕ) → View
with_slots v live vector refs = record { sizes = v.sizes; entry = v.entry; live = live; space = record { measure = v.space.measure; vector = vector }; refs = refs }

-- the rows with the slot s struck out of each, and its own emptied
abbrev pub strike : View → ℕ → ℕ → List ℕ
strike v s t = cond (nat_lt s v.sizes.capacity) (cond (t == s) [] (filter (other_than s) (v.refs t))) (v.refs t)

unfoldable pub plain_ops : Ops View
plain_ops = record {
  view = λ v. v;
  fill = λ v s vector. let c = v.sizes.capacity in with_slots v (at c v.live s true) (at c v.space.vector s vector) (at c v.refs s []);
  write = λ v s ids. with_slots v v.live v.space.vector (at v.sizes.capacity v.refs s (filter (other_than blank) (take v.sizes.degree ids)));
  kill = λ v s. with_slots v (at v.sizes.capacity v.live s false) v.space.vector v.refs;
  enter = λ v e. record { sizes = v.sizes; entry = e; live = v.live; space = v.space; refs = v.refs };
  finish = λ v s. with_slots v v.live v.space.vector (strike v s);
}

-- what making makes
unfoldable pub new_plain : Sizes → Measure → ℕ → List ℕ → List ℕ → ℕ → View
new_plain z measure given vectors rows entry =
    let free = z.capacity - given in
    record {
      sizes = z;
      entry = entry;
      live = λ s. nat_lt s given;
      space = record { measure = measure; vector = λ s. part z.dim s (vectors ++ replicate (free * z.dim) 0) };
      refs = λ s. filter (other_than blank) (part z.degree s (rows ++ replicate (free * z.degree) blank));
    }
