-- All acts together are `delete_batch`. Assumes nothing.
use Prim.Native.Nat.{ℕ, zero, suc, ◌+◌, ◌*◌, max, ◌≤◌, ◌<◌}
use mathlib.Core.Bool.{Bool, true, false, cond}
use mathlib.Core.List.{List, [], ◌∷◌, ◌++◌, map}
use mathlib.Core.Path.{◌≡◌, refl, ap, ap₂, sym, ◌∙◌}
use native.Mathlib.Omega.{arith}
use borrow.Author.Tests.{lt-ltb}
use lib.Dec.{ltb}
use lib.Ieee.{Float}
use lib.ListN.{length, get_or, set, length-set}
use Rattle.lists.specs.Lists.{All, filter, elem, foldl, concat_map, range}
use Rattle.lists.proofs.All.{all_append, all_map, filter_test}
use Rattle.candidates.specs.Candidates.{Candidate, ids}
use Rattle.candidates.specs.Inner.Words.{cand, cands}
use Rattle.candidates.proofs.Words.{cands_length}
use Rattle.candidates.proofs.Scored.{ids_length, all_ids}
use Rattle.slots.specs.Scratch.{work_at, size_answer}
use Rattle.slots.specs.View.{live_neighbors, emptied}
use Rattle.slots.specs.Ops.{write_rows}
use Rattle.slots.specs.Store.{Arrays, Store, arrays, is_valid, vector_of, store_view, store_ops, set_mark, with_arrays}
use Rattle.slots.proofs.Places.{live_inside}
use Rattle.row.specs.Row.{Together, index_of}
use Rattle.row.proofs.Kept.{together_kept, together_shaped, index_with}
use Rattle.repair.specs.Repair.{Link, repair_links, repaired_rows}
use Rattle.repair.specs.Delete.{Stats, Plan, first_or, snapshot, new_entry, plan, delete_slots, delete_batch}
use Rattle.repair.proofs.Sources.{repair_sources}
use Rattle.links.specs.Inner.Linking.{between, apply_link}
use Rattle.links.specs.Inner.Planning.{count_at, plan_at, plans_at}
use Rattle.links.proofs.Linking.{view_between}
use Rattle.links.proofs.Order.{links_in_order}
use Rattle.deletion.specs.Batch.{delete_words, stats_at, stats_of, Deletable, BatchDeleted}
use Rattle.deletion.specs.declared.layout.Layout.{Layout}
use Rattle.deletion.specs.declared.plans.Repair.{Repair}
use Rattle.deletion.specs.Inner.Layout.{layout_of}
use Rattle.deletion.specs.Inner.Naming.{Inside, cleared, lowest_live, entry_after}
use Rattle.deletion.specs.Inner.Plans.{row_count, RowsTaken, recovered_by, candidates_by, PlansMade}
use Rattle.deletion.specs.Inner.Acts.{Takeable, Taken, Repairable, Repaired}
use Rattle.deletion.proofs.Acting.{Marked, taken_inside, taken_table, taken_stay, taken_clear, marked}

-- delete's share of the size answer is enough
pub delete_enough : (capacity degree : ℕ) → degree ≤ 64 → work_at capacity + delete_words degree ≤ size_answer capacity
unfolding size_answer
delete_enough capacity degree h = omega arith

-- ---- cleared marks
pub cleared_long : (marks ss : List ℕ) → length (cleared marks ss) ≡ length marks
cleared_long marks [] = refl
cleared_long marks (s ∷ ss) = cleared_long (set marks s 0) ss ∙ length-set marks s 0

zero_set : (l : List ℕ) (t s : ℕ) → get_or l s 0 ≡ 0 → get_or (set l t 0) s 0 ≡ 0
zero_set [] t s h = h
zero_set (x ∷ xs) zero zero h = refl
zero_set (x ∷ xs) zero (suc s) h = h
zero_set (x ∷ xs) (suc t) zero h = h
zero_set (x ∷ xs) (suc t) (suc s) h = zero_set xs t s h

zero_at : (l : List ℕ) (s : ℕ) → get_or (set l s 0) s 0 ≡ 0
zero_at [] s = refl
zero_at (x ∷ xs) zero = refl
zero_at (x ∷ xs) (suc s) = zero_at xs s

zero_cleared : (marks ss : List ℕ) (s : ℕ) → get_or marks s 0 ≡ 0 → get_or (cleared marks ss) s 0 ≡ 0
zero_cleared marks [] s h = h
zero_cleared marks (t ∷ ss) s h = zero_cleared (set marks t 0) ss s (zero_set marks t s h)

cleared_dead : (marks : List ℕ) (cs : List Candidate) → All (λ c. is_valid (cleared marks (ids cs)) c.id ≡ false) cs
unfolding is_valid
cleared_dead marks [] = tt
cleared_dead marks (c ∷ cs) = (rw (zero_cleared (set marks c.id 0) (ids cs) c.id (zero_at marks c.id)), cleared_dead (set marks c.id 0) cs)

-- arrays with other marks
abbrev with_marks : Arrays → List ℕ → Arrays
with_marks a marks = arrays a.measure a.dim a.degree a.vectors a.targets a.edges a.versions marks

kills : (b : Store) (ss : List ℕ) → All (λ s. s < b.capacity) ss → foldl store_ops.kill b ss ≡ with_arrays b (with_marks b.arrays (cleared b.arrays.marks ss))
unfolding store_ops set_mark
kills b [] h = refl
kills b (s ∷ ss) h =
    let e : cond (ltb s b.capacity) (with_arrays b (set_mark b.arrays s 0)) b ≡ with_arrays b (set_mark b.arrays s 0) = rw (lt-ltb s b.capacity h.0) in
    ap (λ (c : Store). foldl (λ (d : Store) (t : ℕ). cond (ltb t d.capacity) (with_arrays d (set_mark d.arrays t 0)) d) c ss) e
    ∙ kills (with_arrays b (set_mark b.arrays s 0)) ss h.1

-- ---- the entry
first_in : (P : ℕ → Type 0) (e : ℕ) (xs : List ℕ) → P e → All P xs → P (first_or e xs)
first_in P e [] h k = h
first_in P e (x ∷ xs) h k = k.0

cond_in : (P : ℕ → Type 0) (q : Bool) (x y : ℕ) → P x → P y → P (cond q x y)
cond_in P true x y h k = h
cond_in P false x y h k = k

entry_inside : (marks : List ℕ) (entry : ℕ) (ss : List ℕ) → entry < length marks → entry_after marks entry ss < length marks
entry_inside marks entry ss h =
    let xs = filter (is_valid marks) (range 0 (length marks)) in
    cond_in (λ e. e < length marks) (elem entry ss) (lowest_live marks entry) entry
    (first_in (λ e. e < length marks) entry xs h
    (all_map (λ t. is_valid marks t ≡ true) (λ t. t < length marks) (λ t k. live_inside marks t k) xs (filter_test (is_valid marks) (range 0 (length marks)))))
    h

-- ---- the plans that the words hold are those of the definition
module _ (a : Arrays) (alpha : Float) (entry : ℕ) (marks' : List ℕ) (how : Repair) (w₁ w₂ w₃ : List ℕ) (at : Layout) (below : at.from + 2 * at.count ≤ at.stats)
    (t : RowsTaken a w₁ at w₂) (m : PlansMade (with_marks a marks') how w₂ at w₃) where
  -- the index before, and once the marks are cleared and the entry is set
  abbrev b₀ : Store
  b₀ = index_of alpha entry a

  abbrev b₂ : Store
  b₂ = index_of alpha how.entry (with_marks a marks')

  abbrev dist : ℕ → ℕ → ℕ
  dist = between a.measure a.dim a.vectors

  vector_same : (s : ℕ) → (store_view b₀).space.vector s ≡ (store_view b₂).space.vector s
  unfolding store_view vector_of
  vector_same s = refl

  entry_here : (store_view b₂).entry ≡ how.entry
  unfolding store_view
  entry_here = refl

  abbrev wanted : ℕ → List ℕ
  wanted s = candidates_by (store_view b₂) how.beam s (live_neighbors (store_view b₀) s)

  plan_links : (s : ℕ) → (plan (store_view b₂) how.beam how.degree (snapshot (store_view b₀) s)).links ≡ repair_links dist how.degree how.entry (wanted s)
  unfolding plan snapshot
  plan_links s = rw (vector_same s, ← view_between alpha how.entry (with_marks a marks'), entry_here)

  plan_stats : (s : ℕ) → (plan (store_view b₂) how.beam how.degree (snapshot (store_view b₀) s)).stats
      ≡ record {
        outgoing_seeds = length (live_neighbors (store_view b₀) s);
        recovered_in_neighbors = length (recovered_by (store_view b₂) how.beam s);
        repair_candidates = length (wanted s);
        repair_edges_attempted = length (repair_links dist how.degree how.entry (wanted s));
      }
  unfolding plan snapshot
  plan_stats s = rw (vector_same s, ← view_between alpha how.entry (with_marks a marks'), entry_here)

  module _ (j : ℕ) (h : j < at.count) where
    abbrev slot : ℕ
    slot = (cand w₁ (at.from + 2 * j)).id

    slot_kept : (cand w₂ (at.from + 2 * j)).id ≡ slot
    slot_kept = t.same (at.from + 2 * j + 1) (omega arith)

    found : ids (cands w₃ (at.plans + 640 * j) (count_at w₃ at.stats j)) ≡ wanted slot
    found = (m.each j h).list alpha ∙ ap₂ (λ (s : ℕ) (l : List ℕ). candidates_by (store_view b₂) how.beam s l) slot_kept ((t.each j h).list alpha entry)

    links_at : (plan (store_view b₂) how.beam how.degree (snapshot (store_view b₀) slot)).links ≡ plan_at dist how.degree how.entry w₃ at.stats at.plans j
    links_at = plan_links slot ∙ ap (repair_links dist how.degree how.entry) (sym found)

    count_is : count_at w₃ at.stats j ≡ length (wanted slot)
    count_is =
        sym (cands_length w₃ (at.plans + 640 * j) (count_at w₃ at.stats j))
        ∙ sym (ids_length (cands w₃ (at.plans + 640 * j) (count_at w₃ at.stats j)))
        ∙ ap length found

    row_is : row_count w₃ at j ≡ length (live_neighbors (store_view b₀) slot)
    row_is =
        (m.each j h).row
        ∙ sym (cands_length w₂ (at.plans + 640 * j) (row_count w₂ at j))
        ∙ sym (ids_length (cands w₂ (at.plans + 640 * j) (row_count w₂ at j)))
        ∙ ap length ((t.each j h).list alpha entry)

    recovered_is : get_or w₃ (at.stats + 4 * j + 1) 0 ≡ length (recovered_by (store_view b₂) how.beam slot)
    recovered_is = (m.each j h).recovered alpha ∙ ap (λ (s : ℕ). length (recovered_by (store_view b₂) how.beam s)) slot_kept

    links_is : get_or w₃ (at.stats + 4 * j + 3) 0 ≡ length (repair_links dist how.degree how.entry (wanted slot))
    links_is =
        (m.each j h).links.count dist how.entry (ids (cands w₃ (at.plans + 640 * j) (count_at w₃ at.stats j)))
        (ids_length (cands w₃ (at.plans + 640 * j) (count_at w₃ at.stats j)) ∙ cands_length w₃ (at.plans + 640 * j) (count_at w₃ at.stats j)) (m.each j h).plan.once
        ∙ ap (λ (l : List ℕ). length (repair_links dist how.degree how.entry l)) found

    stats_are : (plan (store_view b₂) how.beam how.degree (snapshot (store_view b₀) slot)).stats ≡ stats_of w₃ at.stats j
    stats_are = plan_stats slot ∙ rw (row_is, recovered_is, count_is, links_is)

  abbrev plans_of : List ℕ → List Plan
  plans_of ss = map (plan (store_view b₂) how.beam how.degree) (map (snapshot (store_view b₀)) ss)

  links_from : (n j : ℕ) → j + n ≤ at.count → concat_map (λ q. q.links) (plans_of (ids (cands w₁ (at.from + 2 * j) n))) ≡ concat_map (plan_at dist how.degree how.entry w₃ at.stats at.plans) (range j n)
  unfolding cands
  links_from zero j h = refl
  links_from (suc n) j h =
      let z : at.from + 2 * j + 2 ≡ at.from + 2 * suc j = omega arith in
      ap₂ (λ (x y : List Link). x ++ y) (links_at j (omega arith))
      (ap (λ (x : ℕ). concat_map (λ q. q.links) (plans_of (ids (cands w₁ x n)))) z ∙ links_from n (suc j) (omega arith))

  stats_from : (n j : ℕ) → j + n ≤ at.count → map (λ q. q.stats) (plans_of (ids (cands w₁ (at.from + 2 * j) n))) ≡ map (stats_of w₃ at.stats) (range j n)
  unfolding cands
  stats_from zero j h = refl
  stats_from (suc n) j h =
      let z : at.from + 2 * j + 2 ≡ at.from + 2 * suc j = omega arith in
      ap₂ (λ (x : Stats) (y : List Stats). x ∷ y) (stats_are j (omega arith))
      (ap (λ (x : ℕ). map (λ q. q.stats) (plans_of (ids (cands w₁ x n)))) z ∙ stats_from n (suc j) (omega arith))

  all_links : concat_map (λ q. q.links) (plans_of (ids (cands w₁ at.from at.count))) ≡ plans_at dist how.degree how.entry w₃ at.stats at.plans at.count
  all_links =
      let z : at.from ≡ at.from + 2 * 0 = omega arith in
      ap (λ (x : ℕ). concat_map (λ q. q.links) (plans_of (ids (cands w₁ x at.count)))) z ∙ links_from at.count 0 (omega arith)

  all_stats : map (λ q. q.stats) (plans_of (ids (cands w₁ at.from at.count))) ≡ map (stats_of w₃ at.stats) (range 0 at.count)
  all_stats =
      let z : at.from ≡ at.from + 2 * 0 = omega arith in
      ap (λ (x : ℕ). map (λ q. q.stats) (plans_of (ids (cands w₁ x at.count)))) z ∙ stats_from at.count 0 (omega arith)

  -- the sources of their links are inside
  plan_sources : (j : ℕ) → j < at.count → All (λ l. l.source < length marks') (plan_at dist how.degree how.entry w₃ at.stats at.plans j)
  plan_sources j h =
      let cs = cands w₃ (at.plans + 640 * j) (count_at w₃ at.stats j) in
      repair_sources (λ s. s < length marks') dist how.degree how.entry (ids cs)
      (all_ids (λ s. s < length marks') cs (all_map (λ c. is_valid marks' c.id ≡ true) (λ c. c.id < length marks') (λ c. live_inside marks' c.id) cs (m.each j h).plan.live))

  sources_from : (n j : ℕ) → j + n ≤ at.count → All (λ l. l.source < length marks') (concat_map (plan_at dist how.degree how.entry w₃ at.stats at.plans) (range j n))
  sources_from zero j h = tt
  sources_from (suc n) j h =
      all_append (λ l. l.source < length marks') (plan_at dist how.degree how.entry w₃ at.stats at.plans j) (concat_map (plan_at dist how.degree how.entry w₃ at.stats at.plans) (range (suc j) n))
      (plan_sources j (omega arith)) (sources_from n (suc j) (omega arith))

-- ---- the whole
words_agree : (f g : ℕ → Stats) (n j : ℕ) → ((i : ℕ) → j ≤ i → i < j + n → f i ≡ g i) → map f (range j n) ≡ map g (range j n)
words_agree f g zero j h = refl
words_agree f g (suc n) j h = ap₂ (λ (x : Stats) (y : List Stats). x ∷ y) (h j (omega arith) (omega arith)) (words_agree f g n (suc j) (λ i x y. h i (omega arith) (omega arith)))

module _ {a : Arrays} {entry repair_beam repair_degree : ℕ} {named w : List ℕ} (o : Deletable a entry repair_beam repair_degree named w) where
  pub batch_takes : Takeable a named w
  batch_takes = record { ids_most = o.ids_most; room = omega (arith, o.enough); low = o.together.degree_most }

  -- what the first acts leave
  module _ {at : Layout} {w₂ : List ℕ} (t : Taken a named w at w₂) where
    pub batch_inside : Inside (length a.marks) w₂ at.from at.count
    batch_inside = let l = rw t.place at t.list in let r = rw t.place at t.rows in rw t.place (taken_clear batch_takes l r)

    pub batch_marked : {marks' : List ℕ} {e : ℕ} → marks' ≡ cleared a.marks (ids (cands w₂ at.from at.count)) → e ≡ entry_after marks' entry (ids (cands w₂ at.from at.count))
        → Marked a entry named w (layout_of (length a.marks) at.count) e marks' w₂
    batch_marked m n = let l = rw t.place at t.list in let r = rw t.place at t.rows in marked batch_takes l r (rw t.place at m) (rw t.place at n)

  module _ {p e : ℕ} {marks' w₂ : List ℕ} (c : Marked a entry named w (layout_of (length a.marks) p) e marks' w₂) where
    abbrev at : Layout
    at = layout_of (length a.marks) p

    abbrev slots : List ℕ
    slots = ids (cands c.taken at.from p)

    long : length marks' ≡ length a.marks
    long = ap length c.marks_are ∙ cleared_long a.marks (ids (cands c.taken at.from p))

    stay : cands w₂ at.from p ≡ cands c.taken at.from p
    stay = taken_stay batch_takes c.list c.rows

    pub batch_together : Together (with_marks a marks')
    batch_together = together_kept refl refl refl long o.together

    module _ (alpha : Float) {d : ℕ} (q : d ≡ max 1 repair_degree) where
      abbrev how : Repair
      how = record { alpha = alpha; entry = e; beam = repair_beam; degree = d }

      pub batch_repairs : Repairable (with_marks a marks') how w₂ at
      batch_repairs =
          let t = taken_table batch_takes c.list in
          let i = taken_clear batch_takes c.list c.rows in
          let h : entry < length marks' = rw long o.entry_in in
          let dead : All (λ x. is_valid marks' x.id ≡ false) (cands c.taken at.from p) = rw c.marks_are (cleared_dead a.marks (cands c.taken at.from p)) in
          record {
            makes = record {
              entry_in = rw c.entry_is (entry_inside marks' entry (ids (cands c.taken at.from p)) h);
              beam_most = o.beam_most;
              degree_most = omega (arith, o.degree_most);
              behind = rw long (omega arith);
              table = record { first = t.first; second = t.second; third = omega (arith, t.third, c.rows.size); few = t.few; low = t.low };
              inside = rw long i;
              dead = rw stay dead;
              rows = λ j l. (c.rows.each j l).few;
            };
            placed = omega (arith, t.few);
            area = record { inside = omega (arith, o.enough, c.rows.size, c.list.size); below = omega (arith, o.together.rows.few, o.together.degree_most) };
          }

      module _ {a' : Arrays} {w₃ : List ℕ} (r : Repaired (with_marks a marks') how w₂ at a' w₃) where
        abbrev b : Store
        b = index_of alpha entry a

        abbrev b' : Store
        b' = index_of alpha e (with_marks a marks')

        abbrev links : List Link
        links = plans_at (between a.measure a.dim a.vectors) d e r.made at.stats at.plans p

        below : at.from + 2 * p ≤ at.stats
        below = (taken_table batch_takes c.list).first

        inside : All (λ s. s < length a.marks) slots
        inside = all_ids (λ s. s < length a.marks) (cands c.taken at.from p) (taken_inside batch_takes c.list).each

        the_slots : emptied (store_view b) named ≡ slots
        unfolding emptied store_view
        the_slots = sym c.list.list

        -- the marks are cleared
        killed : foldl store_ops.kill b slots ≡ index_of alpha entry (with_marks a marks')
        killed = kills b slots inside ∙ ap (λ (ms : List ℕ). with_arrays b (with_marks a ms)) (sym c.marks_are) ∙ sym (index_with alpha entry a (with_marks a marks') long)

        the_entry : new_entry (store_view (index_of alpha entry (with_marks a marks'))) slots ≡ e
        unfolding new_entry store_view
        the_entry = sym c.entry_is

        -- what the later acts make of the index c₂
        abbrev plans_by : Store → List Plan
        plans_by c₂ = map (plan (store_view c₂) repair_beam d) (map (snapshot (store_view b)) slots)

        abbrev later : Store → Store × List Stats
        later c₂ =
            (foldl store_ops.finish (write_rows store_ops c₂ (repaired_rows (store_view c₂) (concat_map (λ t. t.links) (plans_by c₂)))) slots, map (λ t. t.stats) (plans_by c₂))

        acts : delete_slots store_ops repair_beam d b slots ≡ later b'
        unfolding delete_slots store_ops
        acts =
            ap (λ (c₁ : Store). later (store_ops.enter c₁ (new_entry (store_view c₁) slots))) killed
            ∙ ap (λ (n : ℕ). later (store_ops.enter (index_of alpha entry (with_marks a marks')) n)) the_entry

        in_order : write_rows store_ops b' (repaired_rows (store_view b') links) ≡ foldl apply_link b' links
        in_order =
            sym (links_in_order b' links (together_shaped batch_together) batch_together.rows.few
            (sources_from a alpha entry marks' how c.taken w₂ r.made at below c.rows r.plan p 0 (omega arith)))

        finished : foldl store_ops.finish (foldl apply_link b' links) slots ≡ index_of alpha e a'
        finished = sym (r.does ∙ ap (λ (cs : List Candidate). foldl store_ops.finish (foldl apply_link b' links) (ids cs)) stay)

        kept : (i : ℕ) → i < p → stats_of r.made at.stats i ≡ stats_of w₃ at.stats i
        kept i h =
            let z = (taken_table batch_takes c.list).few in
            let x₀ : get_or w₃ (at.stats + 4 * i) 0 ≡ get_or r.made (at.stats + 4 * i) 0 = r.same (at.stats + 4 * i) (omega (arith, z)) in
            let x₁ : get_or w₃ (at.stats + 4 * i + 1) 0 ≡ get_or r.made (at.stats + 4 * i + 1) 0 = r.same (at.stats + 4 * i + 1) (omega (arith, z)) in
            let x₂ : get_or w₃ (at.stats + 4 * i + 2) 0 ≡ get_or r.made (at.stats + 4 * i + 2) 0 = r.same (at.stats + 4 * i + 2) (omega (arith, z)) in
            let x₃ : get_or w₃ (at.stats + 4 * i + 3) 0 ≡ get_or r.made (at.stats + 4 * i + 3) 0 = r.same (at.stats + 4 * i + 3) (omega (arith, z)) in
            rw (x₀, x₁, x₂, x₃)

        pub batch_deleted : BatchDeleted a alpha entry repair_beam repair_degree named a' e p w₃
        unfolding delete_batch store_ops
        batch_deleted =
            record {
              count = sym (cands_length c.taken at.from p) ∙ sym (ids_length (cands c.taken at.from p)) ∙ ap length (sym the_slots);
              few = c.list.few;
              does =
                  ap (λ (n : ℕ). delete_slots store_ops repair_beam n b (emptied (store_view b) named)) (sym q)
                  ∙ ap (delete_slots store_ops repair_beam d b) the_slots
                  ∙ acts
                  ∙ ap₂ (λ (ls : List Link) (ss : List Stats). (foldl store_ops.finish (write_rows store_ops b' (repaired_rows (store_view b') ls)) slots, ss))
                  (all_links a alpha entry marks' how c.taken w₂ r.made at below c.rows r.plan)
                  (all_stats a alpha entry marks' how c.taken w₂ r.made at below c.rows r.plan)
                  ∙ ap₂ (λ (s : Store) (ss : List Stats). (s, ss)) (ap (λ (s : Store). foldl store_ops.finish s slots) in_order ∙ finished)
                  (words_agree (stats_of r.made at.stats) (stats_of w₃ at.stats) p 0 (λ i l h. kept i (omega arith)));
            }

-- with the marks that the graph holds then
pub marked_now : {a : Arrays} {entry : ℕ} {named w : List ℕ} {at : Layout} {e : ℕ} {marks₁ marks' w₂ : List ℕ} → marks' ≡ marks₁ → Marked a entry named w at e marks₁ w₂ → Marked a entry named w at e marks' w₂
marked_now e m = rw e m

-- the same of every index that has the slices, as many slots as marks
pub deleted_store : (b : Store) {repair_beam repair_degree : ℕ} {named : List ℕ} {a' : Arrays} {entry' r : ℕ} {w' : List ℕ} → b.capacity ≡ length b.arrays.marks → length a'.marks ≡ length b.arrays.marks
    → BatchDeleted b.arrays b.alpha b.entry repair_beam repair_degree named a' entry' r w'
    → delete_batch store_ops repair_beam repair_degree b named
    ≡ (record { arrays = a'; capacity = b.capacity; alpha = b.alpha; entry = entry' }, map (stats_of w' (stats_at (length b.arrays.marks))) (range 0 r))
deleted_store b {repair_beam} {repair_degree} {named} {a'} {entry'} {r} {w'} e l f =
    ap (λ (n : ℕ). delete_batch store_ops repair_beam repair_degree (record { arrays = b.arrays; capacity = n; alpha = b.alpha; entry = b.entry }) named) e
    ∙ f.does
    ∙ ap (λ (n : ℕ). (record { arrays = a'; capacity = n; alpha = b.alpha; entry = entry' }, map (stats_of w' (stats_at (length b.arrays.marks))) (range 0 r))) (l ∙ sym e)
