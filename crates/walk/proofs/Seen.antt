-- What the walk sees of the lent slices: the distances and live neighbours of a view. Assumes nothing.
use Prim.Native.Nat.{ℕ, ◌≤◌, ◌<◌}
use mathlib.Core.Bool.{true, not}
use mathlib.Core.Path.{◌≡◌, refl, sym}
use mathlib.Core.List.{List, [], ◌∷◌}
use native.Mathlib.Omega.{arith}
use lib.ListN.{length}
use Rattle.lists.specs.Lists.{All, filter, elem, sorted_set}
use Rattle.lists.proofs.All.{all_map, filter_test}
use Rattle.lists.proofs.Filter.{filter_every}
use Rattle.lists.proofs.Members.{elem_sorted}
use Rattle.slots.specs.View.{live_neighbors}
use Rattle.vectors.specs.Space.{query_distance, space, Measured}
use Rattle.slots.specs.Store.{Arrays, Store, is_valid, vector_of, store_view, refs_of}
use Rattle.slots.specs.Inner.Rows.{live_from}
use Rattle.slots.proofs.Places.{live_inside, live_from_whole}
use Rattle.walk.specs.Walk.{graph_search}
use Rattle.walk.specs.Inner.Scratch.{near_of, near_but}

-- a walk over the slices is a walk over the view of them
pub walk_view : (b : Store) (query : List ℕ) (start beam : ℕ)
    → graph_search b.capacity start beam (query_distance (space b.arrays.measure b.arrays.dim b.arrays.vectors) query) (near_of b.arrays)
    ≡ graph_search b.capacity start beam (query_distance (store_view b).space query) (live_neighbors (store_view b))
unfolding near_of query_distance space store_view vector_of
walk_view b query start beam = refl

-- and so it is with slots left out
pub walk_view_but : (ids : List ℕ) (b : Store) (query : List ℕ) (start beam : ℕ)
    → graph_search b.capacity start beam (query_distance (space b.arrays.measure b.arrays.dim b.arrays.vectors) query) (near_but ids b.arrays)
    ≡ graph_search b.capacity start beam (query_distance (store_view b).space query) (λ s. filter (λ t. not (elem t ids)) (live_neighbors (store_view b) s))
unfolding near_of near_but query_distance space store_view vector_of
walk_view_but ids b query start beam = refl

-- ---- distances
pub dist_small : {d r : ℕ} → Measured d r → r ≤ 16777216
dist_small f = omega (arith, f.bound)

-- ---- neighbours
pub near_from : (a : Arrays) (s : ℕ) → near_of a s ≡ live_from a s 0
unfolding near_of
near_from a s = sym (live_from_whole a s)

pub near_valid : (a : Arrays) (s : ℕ) → All (λ t. is_valid a.marks t ≡ true) (near_of a s)
unfolding near_of
near_valid a s = filter_test (is_valid a.marks) (refs_of a s)

pub near_inside : (a : Arrays) (s : ℕ) → All (λ t. t < length a.marks) (near_of a s)
near_inside a s = all_map _ _ (live_inside a.marks) (near_of a s) (near_valid a s)

-- leaving out none
pub near_all : (a : Arrays) (s : ℕ) → near_but [] a s ≡ near_of a s
unfolding near_but
near_all a s = filter_every (near_of a s)

-- for a live slot, to be in a list is to be among its live ones, sorted and each once: with these left out the neighbours are the same
near_live : (a : Arrays) (ids ts : List ℕ) → All (λ t. is_valid a.marks t ≡ true) ts
    → filter (λ t. not (elem t ids)) ts ≡ filter (λ t. not (elem t (sorted_set (filter (is_valid a.marks) ids)))) ts
near_live a ids [] h = refl
near_live a ids (t ∷ ts) h = rw (elem_sorted (is_valid a.marks) t h.0 ids, near_live a ids ts h.1)

pub near_but_live : (a : Arrays) (ids : List ℕ) (s : ℕ) → near_but ids a s ≡ near_but (sorted_set (filter (is_valid a.marks) ids)) a s
unfolding near_but
near_but_live a ids s = near_live a ids (near_of a s) (near_valid a s)
