-- Two indexes that differ only in the vectors of dead slots, and, where no slot is live, in the entry: a delete leaves two such, with equal stats. Of any index
-- whose operations obey the laws. Assumes nothing.
use Prim.Native.Nat.{ℕ, max}
use mathlib.Core.Bool.{true, cond}
use mathlib.Core.Path.{◌≡◌, sym, ap, ◌∙◌, subst}
use mathlib.Core.List.{List, [], ◌∷◌, map}
use lib.Dec.{ltb}
use Rattle.lists.specs.Lists.{All, filter, foldl, concat_map, elem, sort_by}
use Rattle.lists.proofs.All.{all_of, all_sort, filter_test}
use Rattle.lists.proofs.Equal.{map_equal}
use Rattle.lists.proofs.Unique.{all_distinct}
use Rattle.slots.specs.View.{View, EntryLive, Alike, live_slots, emptied}
use Rattle.slots.specs.Ops.{Ops, Row, write_rows}
use Rattle.slots.proofs.Live.{Marking, EntryLaws}
use Rattle.slots.proofs.Alike.{Twins, twin_rows}
use Rattle.repair.specs.Repair.{repaired_rows}
use Rattle.repair.specs.Delete.{Snapshot, Plan, snapshot, first_or, new_entry, plan, delete_slots, delete_batch}
use Rattle.repair.proofs.Alike.{snapshot_alike, plan_alike, plans_links_live, repaired_rows_alike}
use Rattle.repair.proofs.Entry.{cleared, entering, kills_entry, entry_after_delete, entered_entering}

-- the new entries are equal where a slot is live
module _ (v v' : View) (a : Alike v v') where
  same_emptied : (ids : List ℕ) → emptied v' ids ≡ emptied v ids
  unfolding emptied
  same_emptied ids = ap (λ u. emptied u ids) a.others

  equal_entry : (ss : List ℕ) → v'.entry ≡ v.entry → new_entry v' ss ≡ new_entry v ss
  unfolding new_entry
  equal_entry ss e = λ i. cond (elem (e i) ss) (first_or (e i) (live_slots (a.others i))) (e i)

  live_entry : (ss : List ℕ) (s : ℕ) → v.live s ≡ true → new_entry v' ss ≡ new_entry v ss
  live_entry ss s h = equal_entry ss (a.entry s h)

module _ {B : Type 0} (O : Ops B) (Twin : B → B → Type 0) (t : Twins O Twin) where
  twin_kills : (b b' : B) → Twin b b' → (ss : List ℕ) → Twin (foldl O.kill b ss) (foldl O.kill b' ss)
  twin_kills b b' w [] = w
  twin_kills b b' w (s ∷ ss) = twin_kills (O.kill b s) (O.kill b' s) (t.kills b b' w s) ss

  twin_finishes : (b b' : B) → Twin b b' → (ss : List ℕ) → Twin (foldl O.finish b ss) (foldl O.finish b' ss)
  twin_finishes b b' w [] = w
  twin_finishes b b' w (s ∷ ss) = twin_finishes (O.finish b s) (O.finish b' s) (t.finishes b b' w s) ss

  module _ (Fit : B → Type 0) (k : Marking O Fit) (n : EntryLaws O) (b b' : B) (w : Twin b b') (h : Fit b) (entered : EntryLive (O.view b)) where
    -- ---- a rising list of live slots

    module _ (beam degree : ℕ) (ss : List ℕ) (live : All (λ s. (O.view b).live s ≡ true) ss) where
      abbrev b₂ : B
      b₂ = entering O b ss

      abbrev b₂' : B
      b₂' = entering O b' ss

      begun : Twin b₂ b₂'
      begun =
          let c = cleared O b ss in
          let c' = cleared O b' ss in
          let killed = twin_kills b b' w ss in
          t.enters c c' killed (new_entry (O.view c) ss) (new_entry (O.view c') ss) (live_entry (O.view c) (O.view c') (t.shows c c' killed) ss)

      alike : Alike (O.view b₂) (O.view b₂')
      alike = t.shows b₂ b₂' begun

      abbrev plans_of : View → View → List Plan
      plans_of v u = map (plan u beam degree) (map (snapshot v) ss)

      abbrev rows_of : View → List Plan → List Row
      rows_of u plans = repaired_rows u (concat_map (λ p. p.links) plans)

      same_plans : plans_of (O.view b) (O.view b₂) ≡ plans_of (O.view b') (O.view b₂')
      same_plans =
          ap (λ ps. map (plan (O.view b₂) beam degree) ps)
          (map_equal (λ s. (O.view b).live s ≡ true) (snapshot (O.view b)) (snapshot (O.view b'))
          (λ s l. snapshot_alike (O.view b) (O.view b') (t.shows b b' w) s l) ss live)
          ∙ map_equal (λ (s : Snapshot). Unit {0}) (plan (O.view b₂) beam degree) (plan (O.view b₂') beam degree)
          (λ s u. plan_alike (O.view b₂) (O.view b₂') alike (entered_entering O Fit k n b h ss entered) beam degree s)
          (map (snapshot (O.view b')) ss) (all_of _ (λ s. tt) _)

      same_rows : rows_of (O.view b₂) (plans_of (O.view b) (O.view b₂)) ≡ rows_of (O.view b₂') (plans_of (O.view b') (O.view b₂'))
      same_rows =
          repaired_rows_alike (O.view b₂) (O.view b₂') alike (concat_map (λ p. p.links) (plans_of (O.view b) (O.view b₂)))
          (plans_links_live (O.view b₂) beam degree (map (snapshot (O.view b)) ss))
          ∙ ap (rows_of (O.view b₂')) same_plans

      twin_slots : Twin (delete_slots O beam degree b ss).0 (delete_slots O beam degree b' ss).0
      unfolding delete_slots
      twin_slots =
          let rows = rows_of (O.view b₂) (plans_of (O.view b) (O.view b₂)) in
          subst (λ rows'. Twin (foldl O.finish (write_rows O b₂ rows) ss) (foldl O.finish (write_rows O b₂' rows') ss)) same_rows
          (twin_finishes (write_rows O b₂ rows) (write_rows O b₂' rows) (twin_rows O Twin t b₂ b₂' begun rows) ss)

      same_stats : (delete_slots O beam degree b ss).1 ≡ (delete_slots O beam degree b' ss).1
      unfolding delete_slots
      same_stats = ap (λ ps. map (λ p. p.stats) ps) same_plans

    -- ---- `delete_batch`

    module _ (beam degree : ℕ) (ids : List ℕ) where
      emptied_live : All (λ s. (O.view b).live s ≡ true) (emptied (O.view b) ids)
      unfolding emptied
      emptied_live =
          let live = (O.view b).live in
          all_distinct (λ s. s) (λ s. live s ≡ true) (sort_by ltb (filter live ids)) (all_sort _ ltb (filter live ids) (filter_test live ids))

      pub twin_delete : Twin (delete_batch O beam degree b ids).0 (delete_batch O beam degree b' ids).0
      unfolding delete_batch
      twin_delete =
          let ss = emptied (O.view b) ids in
          subst (λ ss'. Twin (delete_slots O beam (max 1 degree) b ss).0 (delete_slots O beam (max 1 degree) b' ss').0)
          (sym (same_emptied (O.view b) (O.view b') (t.shows b b' w) ids))
          (twin_slots beam (max 1 degree) ss emptied_live)

      pub twin_stats : (delete_batch O beam degree b ids).1 ≡ (delete_batch O beam degree b' ids).1
      unfolding delete_batch
      twin_stats =
          let ss = emptied (O.view b) ids in
          same_stats beam (max 1 degree) ss emptied_live
          ∙ ap (λ ss'. (delete_slots O beam (max 1 degree) b' ss').1) (sym (same_emptied (O.view b) (O.view b') (t.shows b b' w) ids))

      -- equal entries stay equal
      pub deleted_entry : (O.view b').entry ≡ (O.view b).entry
          → (O.view (delete_batch O beam degree b' ids).0).entry ≡ (O.view (delete_batch O beam degree b ids).0).entry
      deleted_entry same =
          let ss = emptied (O.view b) ids in
          let c = cleared O b ss in
          let c' = cleared O b' ss in
          let a = t.shows c c' (twin_kills b b' w ss) in
          entry_after_delete O n b' beam degree ids
          ∙ ap (λ ss'. new_entry (O.view (foldl O.kill b' ss')) ss') (same_emptied (O.view b) (O.view b') (t.shows b b' w) ids)
          ∙ equal_entry (O.view c) (O.view c') a ss (kills_entry O n ss b' ∙ same ∙ sym (kills_entry O n ss b))
          ∙ sym (entry_after_delete O n b beam degree ids)
