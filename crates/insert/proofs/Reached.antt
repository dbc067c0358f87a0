-- An insert keeps what holds of every index that calls have reached. Assumes nothing.
use Prim.Native.Nat.{ℕ, max}
use mathlib.Core.Bool.{true}
use mathlib.Core.Path.{◌≡◌}
use mathlib.Core.List.{List, [], ◌∷◌, ◌++◌, map}
use lib.ListN.{length, take}
use Rattle.lists.specs.Lists.{concat_map, chunks, sorted_set, All}
use Rattle.lists.proofs.All.{all_of, all_append, foldl_keeps}
use Rattle.candidates.specs.Candidates.{scored, ids}
use Rattle.vectors.specs.Space.{slot_distance}
use Rattle.slots.specs.View.{View, Reached, live_neighbors, free_slots}
use Rattle.slots.specs.Ops.{Row}
use Rattle.slots.specs.Plain.{plain_ops}
use Rattle.slots.proofs.Reached.{reached_filled, reached_rows}
use Rattle.walk.specs.Walk.{search_pool}
use Rattle.prune.proofs.Chosen.{ids_live}
use Rattle.insert.specs.Insert.{Filling, fillings, Plan, plan, incoming, outgoing_row, target_row, chunk_rows}
use Rattle.insert.specs.Insert.{fill_all, insert_chunk, insert_batch, first_entry, insert_entering}

abbrev LiveRow : View → Row → Type 0
LiveRow v row = All (λ t. v.live t ≡ true) row.targets

-- ---- a chunk's rows lead to live slots

module _ (v : View) (beam : ℕ) where
  outgoing_live : (fs : List Filling) → All (LiveRow v) (map outgoing_row (map (plan v beam) fs))
  unfolding outgoing_row plan
  outgoing_live [] = tt
  outgoing_live (f ∷ fs) = (ids_live v f.slot (search_pool v f.vector (max beam v.sizes.degree)), outgoing_live fs)

  targets_live : (plans : List Plan) (ts : List ℕ) → All (LiveRow v) (map (target_row v plans) ts)
  unfolding target_row
  targets_live plans [] = tt
  targets_live plans (t ∷ ts) = (ids_live v t (scored (slot_distance v.space t) (live_neighbors v t) ++ incoming plans t), targets_live plans ts)

  rows_live : (chunk : List Filling) → All (LiveRow v) (chunk_rows v beam chunk)
  unfolding chunk_rows
  rows_live chunk =
      let plans = map (plan v beam) chunk in
      let ts = sorted_set (concat_map (λ (p : Plan). ids p.outgoing) plans) in
      all_append (LiveRow v) (map outgoing_row plans) (map (target_row v plans) ts) (outgoing_live chunk) (targets_live plans ts)

-- ---- the batch

reached_fillings : (v : View) (fs : List Filling) → Reached v → Reached (fill_all plain_ops v fs)
reached_fillings v [] r = r
reached_fillings v (f ∷ fs) r = reached_fillings (plain_ops.fill v f.slot f.vector) fs (reached_filled v r f.slot f.vector)

reached_chunk : (beam : ℕ) (v : View) (chunk : List Filling) → Reached v → Reached (insert_chunk plain_ops beam v chunk)
unfolding insert_chunk plain_ops
reached_chunk beam v chunk r =
    let u = fill_all plain_ops v chunk in
    reached_rows u (chunk_rows u beam chunk) (reached_fillings v chunk r) (rows_live u beam chunk)

reached_batch : (beam : ℕ) (v : View) (vectors : List (List ℕ)) → Reached v → Reached (insert_batch plain_ops beam v vectors)
unfolding insert_batch plain_ops
reached_batch beam v vectors r =
    let cs = chunks (length vectors) 256 (fillings v vectors) in
    foldl_keeps (λ (c : List Filling). Unit {0}) Reached (insert_chunk plain_ops beam) (λ u c h. reached_chunk beam u c) cs (all_of _ (λ c. tt) cs) v r

pub reached_insert : (beam : ℕ) (v : View) (vectors : List (List ℕ)) → Reached v → Reached (insert_entering plain_ops beam v vectors)
unfolding insert_entering plain_ops
reached_insert beam v vectors r =
    reached_batch beam (plain_ops.enter v (first_entry v (take (length vectors) (free_slots v)))) vectors
    (record { live_inside = r.live_inside; live_targets = r.live_targets })
