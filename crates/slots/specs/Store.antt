-- The stored index: its slices as lists, what a view of it shows, and what insert and delete do to it. Document 01, "Slots, versions, rows";
-- `MmapDynamicDiskANN` in the Rust. Assumes nothing.
use Rattle.std.specs.Prelude.{◌≡◌, ℕ, suc, ◌-◌, ◌*◌, ◌%◌, Bool, cond, not, ◌&&◌, List, [], ◌∷◌, ◌++◌, map, length, take, set, replicate, ◌==◌, nat_lt, slice_index, slice_set, Float}
use Rattle.std.proofs.Math.Option.{Option, none, some}
use Rattle.lists.specs.Lists.{part, put_part}
use Rattle.vectors.specs.Space.{Measure}
use Rattle.slots.specs.Sizes.{Sizes}
use Rattle.slots.specs.View.{View}
use Rattle.slots.specs.Ops.{Ops}

-- `PAD_U32`, the target of a blank reference
abbrev pub blank : ℕ
blank = 4294967295

-- a slot as a number: blank where there is none
abbrev pub or_blank : Option ℕ → ℕ
or_blank none = blank
or_blank (some s) = s

-- what the functions below a call are lent: what the distance is (`dist` in the Rust); dim bytes, degree targets and as many edge versions, a version and a
-- mark for each slot
pub record Arrays : Type 0 where
  pub measure : Measure
  pub dim : ℕ
  pub degree : ℕ
  pub vectors : List ℕ
  pub targets : List ℕ
  pub edges : List ℕ
  pub versions : List ℕ
  pub marks : List ℕ

-- one by one
abbrev pub arrays : Measure → ℕ → ℕ → List ℕ → List ℕ → List ℕ → List ℕ → List ℕ → Arrays
arrays measure dim degree vectors targets edges versions marks =
    record { measure = measure; dim = dim; degree = degree; vectors = vectors; targets = targets; edges = edges; versions = versions; marks = marks }

-- arrays for n slots
pub record Shaped (n : ℕ) (a : Arrays) : Type 0 where
  pub vectors_long : length a.vectors ≡ n * a.dim
  pub targets_long : length a.targets ≡ n * a.degree
  pub edges_long : length a.edges ≡ n * a.degree
  pub versions_long : length a.versions ≡ n
  pub marks_long : length a.marks ≡ n

-- all of the index but its live count and its guard
pub record Store : Type 0 where
  pub arrays : Arrays
  pub capacity : ℕ
  pub alpha : Float
  pub entry : ℕ

-- ---- what is read

-- `is_valid`: a mark other than 0
unfoldable pub is_valid : List ℕ → ℕ → Bool
is_valid marks s = not (slice_index marks s == 0)

-- of a row: the targets of the references whose edge version is their target's version
unfoldable pub current : List ℕ → List ℕ → List ℕ → List ℕ
current versions [] es = []
current versions (t ∷ ts) [] = []
current versions (t ∷ ts) (e ∷ es) =
    let rest = current versions ts es in
    cond (not (t == blank) && e == slice_index versions t) (t ∷ rest) rest

unfoldable pub vector_of : Arrays → ℕ → List ℕ
vector_of a s = part a.dim s a.vectors

unfoldable pub refs_of : Arrays → ℕ → List ℕ
refs_of a s = current a.versions (part a.degree s a.targets) (part a.degree s a.edges)

unfoldable pub store_view : Store → View
store_view b =
    let a = b.arrays in
    record {
      sizes = record { dim = a.dim; capacity = b.capacity; degree = a.degree; alpha = b.alpha };
      entry = b.entry;
      live = is_valid a.marks;
      space = record { measure = a.measure; vector = vector_of a };
      refs = refs_of a;
    }

-- ---- what is written

-- the first d ids, then blanks
abbrev pub padded : ℕ → List ℕ → List ℕ
padded d ids = take d (ids ++ replicate d blank)

-- the edge version that a reference is written with
abbrev pub edge_version : List ℕ → ℕ → ℕ
edge_version versions t = cond (t == blank) 0 (slice_index versions t)

-- `write_neighbors`
unfoldable pub write_neighbors : Arrays → ℕ → List ℕ → Arrays
write_neighbors a s ids =
    let row = padded a.degree ids in
    let targets = put_part a.degree s row a.targets in
    let edges = put_part a.degree s (map (edge_version a.versions) row) a.edges in
    arrays a.measure a.dim a.degree a.vectors targets edges a.versions a.marks

-- `write_vector`
unfoldable pub write_vector : Arrays → ℕ → List ℕ → Arrays
write_vector a s vector =
    let vectors = put_part a.dim s vector a.vectors in
    arrays a.measure a.dim a.degree vectors a.targets a.edges a.versions a.marks

-- `set_valid`
unfoldable pub set_mark : Arrays → ℕ → ℕ → Arrays
set_mark a s mark = arrays a.measure a.dim a.degree a.vectors a.targets a.edges a.versions (slice_set a.marks s mark)

-- the version goes up by one, 65,535 goes to 0
unfoldable pub next_version : Arrays → ℕ → Arrays
next_version a s =
    let versions = set a.versions s (suc (slice_index a.versions s) % 65536) in
    arrays a.measure a.dim a.degree a.vectors a.targets a.edges versions a.marks

-- a vector into slot s, live, with an empty row
abbrev pub filled : Arrays → ℕ → List ℕ → Arrays
filled a s vector = set_mark (write_neighbors (write_vector a s vector) s []) s 1

-- the next version of slot s, and an empty row
abbrev pub finished : Arrays → ℕ → Arrays
finished a s = write_neighbors (next_version a s) s []

abbrev pub with_arrays : Store → Arrays → Store
with_arrays b a = record { arrays = a; capacity = b.capacity; alpha = b.alpha; entry = b.entry }

-- a change at a slot; at a slot outside nothing changes
abbrev pub at_slot : Store → ℕ → Arrays → Store
at_slot b s a = cond (nat_lt s b.capacity) (with_arrays b a) b

unfoldable pub store_ops : Ops Store
store_ops = record {
  view = store_view;
  fill = λ b s vector. at_slot b s (filled b.arrays s vector);
  write = λ b s ids. at_slot b s (write_neighbors b.arrays s ids);
  kill = λ b s. at_slot b s (set_mark b.arrays s 0);
  enter = λ b e. record { arrays = b.arrays; capacity = b.capacity; alpha = b.alpha; entry = e };
  finish = λ b s. at_slot b s (finished b.arrays s);
}

-- ---- what making writes

-- the first slots are given, each with its vector and its row; blanks, repeats and references to themselves stay as given
unfoldable pub new_arrays : Sizes → Measure → ℕ → List ℕ → List ℕ → Arrays
new_arrays z measure given vectors rows =
    let free = z.capacity - given in
    record {
      measure = measure;
      dim = z.dim;
      degree = z.degree;
      vectors = vectors ++ replicate (free * z.dim) 0;
      targets = rows ++ replicate (free * z.degree) blank;
      edges = replicate (z.capacity * z.degree) 0;
      versions = replicate z.capacity 0;
      marks = replicate given 1 ++ replicate free 0;
    }
