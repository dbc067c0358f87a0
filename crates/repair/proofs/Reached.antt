-- A delete keeps what holds of every index that calls have reached. Assumes nothing.
use Prim.Native.Nat.{ℕ, max, ◌<◌}
use mathlib.Core.Bool.{Bool, true, cond}
use mathlib.Core.Path.{◌≡◌, sym, ap, ◌∙◌}
use mathlib.Core.List.{List, [], ◌∷◌, ◌++◌, map}
use lib.Dec.{eqb, ltb}
use Rattle.lists.specs.Lists.{filter, foldl, concat_map, sort_by, sorted_set, elem, All}
use Rattle.lists.proofs.All.{all_map, all_sort, filter_test}
use Rattle.lists.proofs.Unique.{all_distinct}
use Rattle.candidates.specs.Candidates.{scored, ids}
use Rattle.vectors.specs.Space.{slot_distance}
use Rattle.slots.specs.View.{View, Reached, live_neighbors, emptied}
use Rattle.slots.specs.Ops.{Row, write_rows}
use Rattle.slots.specs.Plain.{plain_ops}
use Rattle.slots.proofs.Reached.{Held, none_gone, held_rows, rows_rewritten, killed_less, slots_killed, held_killed, slots_finished, held_finished}
use Rattle.prune.proofs.Chosen.{ids_live}
use Rattle.repair.specs.Repair.{Link, insert_and_prune, repaired_row, repaired_rows}
use Rattle.repair.specs.Delete.{snapshot, Plan, plan, new_entry, delete_slots, delete_batch}

-- ---- repaired rows lead to live slots

module _ (v : View) where
  pub row_live : (source : ℕ) (ts row : List ℕ) → All (λ t. v.live t ≡ true) row → All (λ t. v.live t ≡ true) (foldl (insert_and_prune v source) row ts)
  unfolding insert_and_prune
  row_live source [] row h = h
  row_live source (t ∷ ts) row h =
      row_live source ts (insert_and_prune v source row t) (ids_live v source (scored (slot_distance v.space source) (cond (elem t row) row (row ++ (t ∷ [])))))

  rows_live : (ls : List Link) (sources : List ℕ) → All (λ (row : Row). All (λ t. v.live t ≡ true) row.targets) (map (repaired_row v ls) sources)
  unfolding repaired_row
  rows_live ls [] = tt
  rows_live ls (s ∷ ss) = (row_live s (map (λ l. l.target) (filter (λ l. eqb l.source s) ls)) (live_neighbors v s) (filter_test v.live (v.refs s)), rows_live ls ss)

-- ---- the delete

module _ (v : View) (r : Reached v) (beam degree : ℕ) (ss : List ℕ) (inside : All (λ s. s < v.sizes.capacity) ss) where
  abbrev killed : View
  killed = foldl plain_ops.kill v ss

  abbrev entered : View
  entered = plain_ops.enter killed (new_entry killed ss)

  abbrev all_links : List Link
  all_links = concat_map (λ (p : Plan). p.links) (map (plan entered beam degree) (map (snapshot v) ss))

  abbrev mended : View
  mended = write_rows plain_ops entered (repaired_rows entered all_links)

  abbrev left : View
  left = foldl plain_ops.finish mended ss

  live_left : left.live ≡ killed.live
  unfolding plain_ops
  live_left = (slots_finished mended ss).live ∙ (rows_rewritten entered (repaired_rows entered all_links)).live

  sizes_mended : mended.sizes ≡ v.sizes
  unfolding plain_ops
  sizes_mended = (rows_rewritten entered (repaired_rows entered all_links)).sizes ∙ (slots_killed v ss).sizes

  live_before : (t : ℕ) → killed.live t ≡ true → t < v.sizes.capacity
  live_before t h = r.live_inside t (killed_less v ss t h)

  held_left : Held [] left
  unfolding plain_ops repaired_rows
  held_left =
      held_finished mended ss (rw sizes_mended inside)
      (held_rows ss (repaired_rows entered all_links) entered (rows_live entered all_links (sorted_set (map (λ l. l.source) all_links))) (held_killed v ss r))

  pub reached_slots : Reached (delete_slots plain_ops beam degree v ss).0
  unfolding delete_slots plain_ops
  reached_slots = record {
    live_inside = λ t h. rw ((slots_finished mended ss).sizes ∙ sizes_mended) (live_before t (sym (ap (λ (f : ℕ → Bool). f t) live_left) ∙ h));
    live_targets = none_gone left held_left;
  }

pub reached_delete : (beam degree : ℕ) (v : View) (ids : List ℕ) → Reached v → Reached (delete_batch plain_ops beam degree v ids).0
unfolding delete_batch emptied plain_ops
reached_delete beam degree v ids r =
    let live = all_distinct (λ x. x) (λ s. v.live s ≡ true) (sort_by ltb (filter v.live ids)) (all_sort _ ltb (filter v.live ids) (filter_test v.live ids)) in
    reached_slots v r beam (max 1 degree) (emptied v ids) (all_map _ _ (λ s h. r.live_inside s h) (emptied v ids) live)
