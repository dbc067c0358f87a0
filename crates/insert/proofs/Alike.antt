-- The rows of a chunk are the same of two views that differ only in the vectors of dead slots: a plan starts from a walk and selects live slots, so that every
-- target is live, and so are its neighbours that are pruned. Assumes nothing.
use Prim.Native.Nat.{ℕ, max}
use mathlib.Core.Bool.{true}
use mathlib.Core.Path.{◌≡◌, refl, ap, ◌∙◌}
use mathlib.Core.List.{List, [], ◌∷◌, ◌++◌, map}
use lib.Dec.{ltb}
use Rattle.lists.specs.Lists.{All, concat_map, sort_by, sorted_set}
use Rattle.lists.proofs.All.{all_of, all_append, all_sort, filter_test}
use Rattle.lists.proofs.Equal.{map_equal}
use Rattle.lists.proofs.Unique.{all_distinct}
use Rattle.candidates.specs.Candidates.{Candidate, scored, ids}
use Rattle.candidates.proofs.Scored.{scored_equal}
use Rattle.vectors.specs.Space.{slot_distance}
use Rattle.slots.specs.View.{View, live_neighbors, with_vectors, Alike}
use Rattle.slots.specs.Ops.{Row}
use Rattle.slots.proofs.Alike.{by_alike, same_distance}
use Rattle.walk.specs.Walk.{search_pool}
use Rattle.walk.proofs.Alike.{search_pool_alike}
use Rattle.prune.specs.Prune.{prune}
use Rattle.prune.proofs.Chosen.{ids_live}
use Rattle.prune.proofs.Alike.{prune_alike}
use Rattle.insert.specs.Insert.{Filling, Plan, plan, incoming, outgoing_row, target_row, chunk_rows}

abbrev targets_of : List Plan → List ℕ
targets_of plans = sorted_set (concat_map (λ p. ids p.outgoing) plans)

-- what plans select is live
selected_live : (v : View) (beam : ℕ) (fs : List Filling) → All (λ t. v.live t ≡ true) (concat_map (λ (p : Plan). ids p.outgoing) (map (plan v beam) fs))
unfolding plan
selected_live v beam [] = tt
selected_live v beam (f ∷ fs) =
    all_append (λ t. v.live t ≡ true) (ids (plan v beam f).outgoing) (concat_map (λ p. ids p.outgoing) (map (plan v beam) fs))
    (ids_live v f.slot (search_pool v f.vector (max beam v.sizes.degree))) (selected_live v beam fs)

targets_live : (v : View) (beam : ℕ) (fs : List Filling) → All (λ t. v.live t ≡ true) (targets_of (map (plan v beam) fs))
targets_live v beam fs =
    let l = concat_map (λ (p : Plan). ids p.outgoing) (map (plan v beam) fs) in
    all_distinct (λ x. x) (λ t. v.live t ≡ true) (sort_by ltb l) (all_sort (λ t. v.live t ≡ true) ltb l (selected_live v beam fs))

module _ (v : View) (vector : ℕ → List ℕ) (entry : ℕ) (same : (s : ℕ) → v.live s ≡ true → vector s ≡ v.space.vector s)
    (one : (s : ℕ) → v.live s ≡ true → entry ≡ v.entry) where
  abbrev other : View
  other = with_vectors v vector entry

  alike : Alike v other
  alike = record { others = refl; vectors = same; entry = one }

  plan_equal : (beam : ℕ) (f : Filling) → plan v beam f ≡ plan other beam f
  unfolding plan
  plan_equal beam f =
      let wide = max beam v.sizes.degree in
      ap (λ (l : List Candidate). record { id = f.slot; outgoing = l })
      (prune_alike v other alike f.slot (search_pool v f.vector wide) ∙ ap (prune other f.slot) (search_pool_alike v other alike f.vector wide))

  target_equal : (plans : List Plan) (t : ℕ) → v.live t ≡ true → target_row v plans t ≡ target_row other plans t
  unfolding target_row
  target_equal plans t h =
      ap (λ (l : List Candidate). record { source = t; targets = ids l })
      (prune_alike v other alike t (scored (slot_distance v.space t) (live_neighbors v t) ++ incoming plans t)
      ∙ ap (λ (l : List Candidate). prune other t (l ++ incoming plans t))
      (scored_equal (λ s. v.live s ≡ true) (slot_distance v.space t) (slot_distance other.space t) (λ s. same_distance v vector entry same t s h)
      (live_neighbors v t) (filter_test v.live (v.refs t))))

  rows_equal : (beam : ℕ) (chunk : List Filling) → chunk_rows v beam chunk ≡ chunk_rows other beam chunk
  unfolding chunk_rows
  rows_equal beam chunk =
      let plans = map (plan v beam) chunk in
      let rows : List Plan → List Row = λ l. map outgoing_row l ++ map (target_row other l) (targets_of l) in
      ap (λ (l : List Row). map outgoing_row plans ++ l)
      (map_equal (λ t. v.live t ≡ true) (target_row v plans) (target_row other plans) (target_equal plans) (targets_of plans) (targets_live v beam chunk))
      ∙ ap rows (map_equal (λ f. Unit {0}) (plan v beam) (plan other beam) (λ f _. plan_equal beam f) chunk (all_of _ (λ f. tt) chunk))

pub chunk_rows_alike : (v v' : View) → Alike v v' → (beam : ℕ) (chunk : List Filling) → chunk_rows v beam chunk ≡ chunk_rows v' beam chunk
chunk_rows_alike v v' a beam chunk =
    by_alike v v' a (λ u. chunk_rows v beam chunk ≡ chunk_rows u beam chunk) (λ vector entry same one. rows_equal v vector entry same one beam chunk)
