-- Small stored indexes, computed: what writing a row, filling a slot and finishing a delete leave in the slices, and what the plain index has.
-- Assumes nothing.
use Rattle.std.proofs.Common.{◌≡◌, ℕ, List, [], ◌∷◌, map, refl}
use Rattle.vectors.specs.Distance.{distance, f32}
use Rattle.slots.specs.Store.{Store, blank, current, refs_of, store_view, write_neighbors, write_vector, set_mark, next_version, store_ops}
use Rattle.slots.specs.Plain.{plain_ops}

-- three slots of dim 1 and degree 2 with versions 5, 65,535 and 0; slot 0 refers to slot 1 in its version and in an older one, slot 2 to slot 0
before : Store
before = record {
  arrays = record {
    measure = distance [];
    dim = 1;
    degree = 2;
    vectors = 7 ∷ 8 ∷ 9 ∷ [];
    targets = 1 ∷ 1 ∷ blank ∷ blank ∷ 0 ∷ blank ∷ [];
    edges = 65535 ∷ 65534 ∷ 0 ∷ 0 ∷ 5 ∷ 0 ∷ [];
    versions = 5 ∷ 65535 ∷ 0 ∷ [];
    marks = 1 ∷ 1 ∷ 1 ∷ [];
  };
  capacity = 3;
  alpha = f32 1;
  entry = 0;
}

-- the five slices, and what a view shows of each row
abbrev shown : Store → List (List ℕ)
shown b =
    let a = b.arrays in
    a.vectors ∷ a.targets ∷ a.edges ∷ a.versions ∷ a.marks ∷ map (store_view b).refs (0 ∷ 1 ∷ 2 ∷ [])

-- the targets' present versions, and blanks with version 0
written : shown (store_ops.write before 2 (1 ∷ []))
    ≡ (7 ∷ 8 ∷ 9 ∷ [])
    ∷ (1 ∷ 1 ∷ blank ∷ blank ∷ 1 ∷ blank ∷ [])
    ∷ (65535 ∷ 65534 ∷ 0 ∷ 0 ∷ 65535 ∷ 0 ∷ [])
    ∷ (5 ∷ 65535 ∷ 0 ∷ [])
    ∷ (1 ∷ 1 ∷ 1 ∷ [])
    ∷ (1 ∷ []) ∷ [] ∷ (1 ∷ []) ∷ []
unfolding before store_ops store_view refs_of current write_neighbors
written = refl

-- the version goes up by one; the row is blank; references to the slot are outdated
finished : shown (store_ops.finish before 0)
    ≡ (7 ∷ 8 ∷ 9 ∷ [])
    ∷ (blank ∷ blank ∷ blank ∷ blank ∷ 0 ∷ blank ∷ [])
    ∷ (0 ∷ 0 ∷ 0 ∷ 0 ∷ 5 ∷ 0 ∷ [])
    ∷ (6 ∷ 65535 ∷ 0 ∷ [])
    ∷ (1 ∷ 1 ∷ 1 ∷ [])
    ∷ [] ∷ [] ∷ [] ∷ []
unfolding before store_ops store_view refs_of current write_neighbors next_version
finished = refl

-- 65,535 goes to 0
turned : shown (store_ops.finish before 1)
    ≡ (7 ∷ 8 ∷ 9 ∷ [])
    ∷ (1 ∷ 1 ∷ blank ∷ blank ∷ 0 ∷ blank ∷ [])
    ∷ (65535 ∷ 65534 ∷ 0 ∷ 0 ∷ 5 ∷ 0 ∷ [])
    ∷ (5 ∷ 0 ∷ 0 ∷ [])
    ∷ (1 ∷ 1 ∷ 1 ∷ [])
    ∷ [] ∷ [] ∷ (0 ∷ []) ∷ []
unfolding before store_ops store_view refs_of current write_neighbors next_version
turned = refl

-- a slot dies and is filled: its vector, an empty row, a mark
filled : shown (store_ops.fill (store_ops.kill before 0) 0 (4 ∷ []))
    ≡ (4 ∷ 8 ∷ 9 ∷ [])
    ∷ (blank ∷ blank ∷ blank ∷ blank ∷ 0 ∷ blank ∷ [])
    ∷ (0 ∷ 0 ∷ 0 ∷ 0 ∷ 5 ∷ 0 ∷ [])
    ∷ (5 ∷ 65535 ∷ 0 ∷ [])
    ∷ (1 ∷ 1 ∷ 1 ∷ [])
    ∷ [] ∷ [] ∷ (0 ∷ []) ∷ []
unfolding before store_ops store_view refs_of current write_neighbors write_vector set_mark
filled = refl

-- the plain index strikes a slot out of every row, and empties its own
struck : map (plain_ops.finish (store_view before) 0).refs (0 ∷ 1 ∷ 2 ∷ []) ≡ [] ∷ [] ∷ [] ∷ []
unfolding before plain_ops store_view refs_of current
struck = refl
