-- Sizes of an index, their limits, its weights, its nine slices and their lengths: document 01, rows 1, 2, 3 and 7 of "Turned-back calls", and document 02's 16
-- (E3). Assumes nothing.
use Rattle.std.specs.Prelude.{ℕ, ◌*◌, Bool, ◌&&◌, List, length, ◌==◌, nat_le, Float}
use Rattle.std.specs.Float.Ieee.{le}
use Rattle.lists.specs.Lists.{all, sum}
use Rattle.vectors.specs.Distance.{f32}

pub record Sizes : Type 0 where
  pub dim : ℕ
  pub capacity : ℕ
  pub degree : ℕ
  pub alpha : Float

-- the largest number of each kind that is accepted
pub record Limits : Type 0 where
  pub dim : ℕ
  pub capacity : ℕ
  pub degree : ℕ
  pub beam : ℕ
  pub repair_beam : ℕ
  pub repair_degree : ℕ
  pub ids : ℕ
  pub landmarks : ℕ
  pub multiplier : ℕ
  pub sample : ℕ
  pub pool : ℕ
  pub weight : ℕ
  pub weight_sum : ℕ

unfoldable pub limits : Limits
limits = record {
  dim = 256;
  capacity = 65536;
  degree = 64;
  beam = 1024;
  repair_beam = 256;
  repair_degree = 16;
  ids = 256;
  landmarks = 64;
  multiplier = 16;
  sample = 65536;
  pool = 1024;
  weight = 4;
  weight_sum = 256;
}

abbrev pub within : ℕ → ℕ → ℕ → Bool
within low high n = nat_le low n && nat_le n high

unfoldable pub sizes_ok : Limits → Sizes → Bool
sizes_ok l z = within 1 l.dim z.dim && within 1 l.capacity z.capacity && within 1 l.degree z.degree

-- no NaN passes
unfoldable pub alpha_ok : Float → Bool
alpha_ok alpha = le (f32 1) alpha && le alpha (f32 2)

-- each from 1 on, within its limit and all together within theirs
unfoldable pub weights_ok : Limits → List ℕ → Bool
weights_ok l weights = all (within 1 l.weight) weights && nat_le (sum weights) l.weight_sum

-- what an index's nine slices hold: dim bytes, degree targets and as many edge versions, a version and a mark for each slot; words of the landmark pool; a
-- figure number for each slot, and the summary, a word for each slot (document 02, E1); a weight for each byte of a vector (E3)
pub record Slices : Type 0 where
  pub vectors : List ℕ
  pub targets : List ℕ
  pub edges : List ℕ
  pub versions : List ℕ
  pub marks : List ℕ
  pub pool : List ℕ
  pub numbers : List ℕ
  pub summary : List ℕ
  pub weights : List ℕ

-- one by one
abbrev pub slices : List ℕ → List ℕ → List ℕ → List ℕ → List ℕ → List ℕ → List ℕ → List ℕ → List ℕ → Slices
slices vectors targets edges versions marks pool numbers summary weights =
    record {
      vectors = vectors;
      targets = targets;
      edges = edges;
      versions = versions;
      marks = marks;
      pool = pool;
      numbers = numbers;
      summary = summary;
      weights = weights;
    }

-- their lengths
pub record Lengths : Type 0 where
  pub vectors : ℕ
  pub targets : ℕ
  pub edges : ℕ
  pub versions : ℕ
  pub marks : ℕ
  pub pool : ℕ
  pub numbers : ℕ
  pub summary : ℕ
  pub weights : ℕ

abbrev pub lengths_of : Slices → Lengths
lengths_of s =
    record {
      vectors = length s.vectors;
      targets = length s.targets;
      edges = length s.edges;
      versions = length s.versions;
      marks = length s.marks;
      pool = length s.pool;
      numbers = length s.numbers;
      summary = length s.summary;
      weights = length s.weights;
    }

-- the only lengths that pass
abbrev pub exact : Limits → Sizes → Lengths
exact l z =
    record {
      vectors = z.capacity * z.dim;
      targets = z.capacity * z.degree;
      edges = z.capacity * z.degree;
      versions = z.capacity;
      marks = z.capacity;
      pool = l.pool;
      numbers = z.capacity;
      summary = z.capacity;
      weights = z.dim;
    }

unfoldable pub lengths_ok : Limits → Sizes → Lengths → Bool
lengths_ok l z n =
    let e = exact l z in
    (n.vectors == e.vectors) && n.targets == e.targets && n.edges == e.edges
    && n.versions == e.versions && n.marks == e.marks && n.pool == e.pool
    && n.numbers == e.numbers && n.summary == e.summary && n.weights == e.weights
