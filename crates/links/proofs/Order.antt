-- Links applied to the stored rows one after the other leave the index that `repaired_rows` leaves, all worked out before the first is written.
-- Assumes nothing.
use Prim.Native.Nat.{ℕ, ◌≤◌, ◌<◌}
use mathlib.Core.Bool.{true, cond}
use mathlib.Core.Path.{◌≡◌, refl, sym, ◌∙◌}
use mathlib.Core.List.{List, [], ◌∷◌, ◌++◌}
use native.Mathlib.Omega.{arith}
use borrow.Author.Tests.{ne_eqb}
use lib.ListN.{length}
use lib.Seq.{take_all}
use Rattle.lists.specs.Lists.{All, foldl, elem}
use Rattle.lists.proofs.All.{all_map}
use Rattle.lists.proofs.Filtered.{filter_all}
use Rattle.lists.proofs.Unique.{Unique}
use Rattle.vectors.specs.Space.{slot_distance}
use Rattle.candidates.specs.Candidates.{Candidate, scored}
use Rattle.candidates.proofs.Scored.{ids_length, all_ids}
use Rattle.slots.specs.View.{live_neighbors}
use Rattle.slots.specs.Ops.{write_rows}
use Rattle.slots.specs.Plain.{other_than}
use Rattle.slots.specs.Store.{Store, blank, is_valid, vector_of, store_view, write_neighbors, store_ops}
use Rattle.slots.proofs.Places.{live_inside}
use Rattle.slots.proofs.Writes.{Writes, Whole, after_write, store_writes, neighbors_kept, neighbors_written}
use Rattle.prune.specs.Prune.{prune}
use Rattle.prune.proofs.Chosen.{chosen_live, chosen_few}
use Rattle.repair.specs.Repair.{Link, insert_and_prune, repaired_row, repaired_rows}
use Rattle.links.specs.Inner.Linking.{apply_link, by_source}
use Rattle.links.proofs.Queue.{all_set, link_sources, Reads, final, in_order, in_turn}

-- an index of n slots, its slices in shape
record Sized (n : ℕ) (b : Store) : Type 0 where
  whole : Whole b
  size : b.capacity ≡ n

abbrev read : Store → ℕ → List ℕ
read b s = live_neighbors (store_view b) s

abbrev grow : Store → ℕ → List ℕ → ℕ → List ℕ
grow b = insert_and_prune (store_view b)

-- a pruned row is of live slots, and no longer than the degree
abbrev given : Store → ℕ → List ℕ → ℕ → List Candidate
given b s row t = scored (slot_distance (store_view b).space s) (cond (elem t row) row (row ++ (t ∷ [])))

new_live : (b : Store) (s : ℕ) (row : List ℕ) (t : ℕ) → All (λ u. is_valid b.arrays.marks u ≡ true) (grow b s row t)
unfolding insert_and_prune store_view
new_live b s row t =
    all_ids (λ u. is_valid b.arrays.marks u ≡ true) (prune (store_view b) s (given b s row t))
    (chosen_live b.arrays.degree b.alpha (is_valid b.arrays.marks) (slot_distance (store_view b).space) s (given b s row t))

new_few : (b : Store) (s : ℕ) (row : List ℕ) (t : ℕ) → length (grow b s row t) ≤ b.arrays.degree
unfolding insert_and_prune store_view
new_few b s row t =
    let f = chosen_few b.arrays.degree b.alpha (is_valid b.arrays.marks) (slot_distance (store_view b).space) s (given b s row t) in
    omega (arith, f, ids_length (prune (store_view b) s (given b s row t)))

module _ (n : ℕ) (few : n ≤ 65536) where
  writes : Writes (Sized n) store_ops.write
  writes =
      record {
        ok = λ b s x k. record { whole = store_writes.ok b s x k.whole; size = after_write (λ d. d.capacity ≡ n) b s x (λ h. k.size) k.size };
        same = λ b s x y k. store_writes.same b s x y k.whole;
        swap = λ b s t x y k o. store_writes.swap b s t x y k.whole o;
      }

  -- a live slot is no blank
  no_blank : (b : Store) → Sized n b → (t : ℕ) → is_valid b.arrays.marks t ≡ true → other_than blank t ≡ true
  no_blank b k t e = rw (ne_eqb t blank (λ (z : t ≡ blank). absurd (omega (arith, live_inside b.arrays.marks t e, k.whole.marks_long, k.size))))

  got : (b : Store) (s : ℕ) (row : List ℕ) (t : ℕ) → Sized n b → s < n → read (store_ops.write b s (grow b s row t)) s ≡ grow b s row t
  got b s row t k h =
      let x = grow b s row t in
      let live = new_live b s row t in
      neighbors_written b s x k.whole (rw k.size h)
      ∙ rw (take_all b.arrays.degree x (new_few b s row t), filter_all (other_than blank) x (all_map (λ u. is_valid b.arrays.marks u ≡ true) (λ u. other_than blank u ≡ true) (no_blank b k) x live))
      (filter_all (is_valid b.arrays.marks) x live)

  stays : (b : Store) (s : ℕ) (x : List ℕ) → grow (store_ops.write b s x) ≡ grow b
  stays b s x = after_write (λ d. grow d ≡ grow b) b s x (λ h. unfold insert_and_prune store_view write_neighbors slot_distance vector_of in refl) refl

  reads : Reads (Sized n) store_ops.write read grow (λ s. s < n)
  reads = record { got = got; kept = λ b s u x k o. neighbors_kept b s u x k.whole o; stays = stays }

  one_by_one : (b : Store) (ls : List Link) → Sized n b → All (λ l. l.source < n) ls → foldl apply_link b ls ≡ write_rows store_ops b (repaired_rows (store_view b) ls)
  unfolding apply_link repaired_rows repaired_row
  one_by_one b ls k o =
      let f = final (Sized n) store_ops.write writes read grow (λ s. s < n) reads b ls in
      in_order (Sized n) store_ops.write writes read grow (λ s. s < n) reads b ls k o
      ∙ sym (all_set (Sized n) store_ops.write writes f b (link_sources ls) k)

  one_source_at_a_time : (b : Store) (ls : List Link) (ss : List ℕ) → Sized n b → Unique ss → All (λ l. elem l.source ss ≡ true) ls → foldl (by_source ls) b ss ≡ foldl apply_link b ls
  unfolding apply_link
  one_source_at_a_time b ls ss k u o = in_turn (Sized n) store_ops.write writes read grow (λ s. s < n) reads ss ls b k u o

-- links applied source by source
pub sources_in_turn : (b : Store) (ls : List Link) (ss : List ℕ) → Whole b → b.capacity ≤ 65536 → Unique ss → All (λ l. elem l.source ss ≡ true) ls → foldl (by_source ls) b ss ≡ foldl apply_link b ls
sources_in_turn b ls ss k few u o = one_source_at_a_time b.capacity few b ls ss (record { whole = k; size = refl }) u o

-- the links of all plans, applied one after the other
pub links_in_order : (b : Store) (ls : List Link) → Whole b → b.capacity ≤ 65536 → All (λ l. l.source < b.capacity) ls
    → foldl apply_link b ls ≡ write_rows store_ops b (repaired_rows (store_view b) ls)
links_in_order b ls k few o = one_by_one b.capacity few b ls (record { whole = k; size = refl }) o
