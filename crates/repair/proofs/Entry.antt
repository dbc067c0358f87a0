-- Which slot is the entry after a delete, and that it is live where a slot is (`EntryLive`): of any index whose operations obey the laws of marks and of the
-- entry (`Marking`, `EntryLaws`). Assumes nothing.
use Prim.Native.Nat.{ℕ, max, ◌<◌}
use mathlib.Core.Bool.{Bool, true, false, ◌&&◌, cond, true≢false}
use mathlib.Core.Path.{◌≡◌, refl, sym, ap, ◌∙◌}
use mathlib.Core.List.{List, [], ◌∷◌, map}
use lib.ListN.{length}
use lib.Dec.{eqb, ltb}
use Rattle.std.proofs.lemmas.Bool.{or_parts}
use Rattle.lists.specs.Lists.{foldl, concat_map, elem, range, All}
use Rattle.lists.proofs.All.{filter_test}
use Rattle.slots.specs.View.{View, EntryLive, live_slots, emptied}
use Rattle.slots.specs.Ops.{Ops, write_rows}
use Rattle.slots.proofs.Live.{Marking, EntryLaws, rows_entry, none_live}
use Rattle.repair.specs.Repair.{repaired_rows}
use Rattle.repair.specs.Delete.{snapshot, first_or, new_entry, plan, delete_slots, delete_batch}
use Rattle.repair.proofs.Count.{rows_kept, finishes_kept}

-- ---- the new entry, once the slots are dead

-- where the entry is one of the slots, the new one is the first live slot; else it stays, and is live as before
new_entry_live : (u : View) (ss : List ℕ) → ((s : ℕ) → u.live s ≡ true → s < u.sizes.capacity) → (elem u.entry ss ≡ false → EntryLive u)
    → (s : ℕ) → u.live s ≡ true → u.live (new_entry u ss) ≡ true
unfolding new_entry
new_entry_live u ss inside stays s h = go (elem u.entry ss) refl (live_slots u) refl (filter_test u.live (range 0 u.sizes.capacity))
  where
    go : (b : Bool) → elem u.entry ss ≡ b → (l : List ℕ) → live_slots u ≡ l → All (λ t. u.live t ≡ true) l → u.live (cond b (first_or u.entry l) u.entry) ≡ true
    go true e [] q live = absurd (none_live u inside (ap length q) s h)
    go true e (t ∷ l) q live = live.0
    go false e l q live = stays e s h

-- ---- what a delete sets

module _ {B : Type 0} (O : Ops B) where
  -- the index once the marks are cleared, and once the entry is set: what the plans are made of
  abbrev pub cleared : B → List ℕ → B
  cleared b ss = foldl O.kill b ss

  abbrev pub entering : B → List ℕ → B
  entering b ss = O.enter (cleared b ss) (new_entry (O.view (cleared b ss)) ss)

module _ {B : Type 0} (O : Ops B) (n : EntryLaws O) where
  finishes_entry : (ss : List ℕ) (b : B) → (O.view (foldl O.finish b ss)).entry ≡ (O.view b).entry
  finishes_entry [] b = refl
  finishes_entry (s ∷ ss) b = finishes_entry ss (O.finish b s) ∙ n.finishes b s

  pub kills_entry : (ss : List ℕ) (b : B) → (O.view (cleared O b ss)).entry ≡ (O.view b).entry
  kills_entry [] b = refl
  kills_entry (s ∷ ss) b = kills_entry ss (O.kill b s) ∙ n.kills b s

  entry_after_slots : (b : B) (beam degree : ℕ) (ss : List ℕ)
      → (O.view (delete_slots O beam degree b ss).0).entry ≡ new_entry (O.view (cleared O b ss)) ss
  unfolding delete_slots
  entry_after_slots b beam degree ss =
      let b₂ = entering O b ss in
      let rows = repaired_rows (O.view b₂) (concat_map (λ p. p.links) (map (plan (O.view b₂) beam degree) (map (snapshot (O.view b)) ss))) in
      finishes_entry ss (write_rows O b₂ rows) ∙ rows_entry O n rows b₂ ∙ n.enters (cleared O b ss) (new_entry (O.view (cleared O b ss)) ss)

  -- the entry after a delete: where the one before is deleted, a slot that is left, if any is; else the one before
  pub entry_after_delete : (b : B) (beam degree : ℕ) (ids : List ℕ)
      → (O.view (delete_batch O beam degree b ids).0).entry ≡ (let ss = emptied (O.view b) ids in new_entry (O.view (cleared O b ss)) ss)
  unfolding delete_batch
  entry_after_delete b beam degree ids = entry_after_slots b beam (max 1 degree) (emptied (O.view b) ids)

module _ {B : Type 0} (O : Ops B) (Fit : B → Type 0) (k : Marking O Fit) (n : EntryLaws O) where
  -- ---- slots are killed

  -- no other slot dies, and none is revived
  record Cleared (b : B) (ss : List ℕ) (b' : B) : Type 0 where
    fits : Fit b'
    fewer : (t : ℕ) → (O.view b').live t ≡ true → (O.view b).live t ≡ true
    others : (t : ℕ) → elem t ss ≡ false → (O.view b').live t ≡ (O.view b).live t

  dead_or_same : (a c x : Bool) → cond (a && c) false x ≡ true → x ≡ true
  dead_or_same true true x h = absurd (true≢false (sym h))
  dead_or_same true false x h = h
  dead_or_same false c x h = h

  apart : (a c x : Bool) → c ≡ false → cond (a && c) false x ≡ x
  apart true true x h = absurd (true≢false h)
  apart true false x h = refl
  apart false c x h = refl

  kills_clear : (ss : List ℕ) (b : B) → Fit b → Cleared b ss (foldl O.kill b ss)
  kills_clear [] b h = record { fits = h; fewer = λ t e. e; others = λ t e. refl }
  kills_clear (s ∷ ss) b h =
      let m = k.kills b h s in
      let r = kills_clear ss (O.kill b s) m.fits in
      let c = (O.view b).sizes.capacity in
      let live = (O.view b).live in
      let at_slot : (t : ℕ) → (O.view (O.kill b s)).live t ≡ cond (ltb s c && eqb t s) false (live t) = λ t. ap (λ (l : ℕ → Bool). l t) m.live in
      record {
        fits = r.fits;
        fewer = λ t e. dead_or_same (ltb s c) (eqb t s) (live t) (sym (at_slot t) ∙ r.fewer t e);
        others = λ t e. r.others t (or_parts (eqb t s) (elem t ss) e).1 ∙ at_slot t
            ∙ apart (ltb s c) (eqb t s) (live t) (or_parts (eqb t s) (elem t ss) e).0;
      }

  -- ---- the delete

  module _ (b : B) (h : Fit b) (ss : List ℕ) where
    fits_entering : Fit (entering O b ss)
    fits_entering = (k.enters (cleared O b ss) (kills_clear ss b h).fits (new_entry (O.view (cleared O b ss)) ss)).fits

    live_entering : (O.view (entering O b ss)).live ≡ (O.view (cleared O b ss)).live
    live_entering = (k.enters (cleared O b ss) (kills_clear ss b h).fits (new_entry (O.view (cleared O b ss)) ss)).live

    cleared_entered : EntryLive (O.view b) → elem (O.view (cleared O b ss)).entry ss ≡ false → EntryLive (O.view (cleared O b ss))
    cleared_entered en e s l =
        let c = kills_clear ss b h in
        let q = kills_entry O n ss b in
        ap (O.view (cleared O b ss)).live q ∙ c.others (O.view b).entry (ap (λ (x : ℕ). elem x ss) (sym q) ∙ e) ∙ en s (c.fewer s l)

    -- the plans are made of an index whose entry is live, where a slot is
    pub entered_entering : EntryLive (O.view b) → EntryLive (O.view (entering O b ss))
    entered_entering en s l =
        let u = O.view (cleared O b ss) in
        ap (O.view (entering O b ss)).live (n.enters (cleared O b ss) (new_entry u ss)) ∙ ap (λ (f : ℕ → Bool). f (new_entry u ss)) live_entering
        ∙ new_entry_live u ss (k.inside (cleared O b ss) (kills_clear ss b h).fits) (cleared_entered en) s (sym (ap (λ (f : ℕ → Bool). f s) live_entering) ∙ l)

    live_after_slots : (beam degree : ℕ) → (O.view (delete_slots O beam degree b ss).0).live ≡ (O.view (entering O b ss)).live
    unfolding delete_slots
    live_after_slots beam degree =
        let b₂ = entering O b ss in
        let rows = repaired_rows (O.view b₂) (concat_map (λ p. p.links) (map (plan (O.view b₂) beam degree) (map (snapshot (O.view b)) ss))) in
        let m = rows_kept O Fit k rows b₂ fits_entering in
        (finishes_kept O Fit k ss (write_rows O b₂ rows) m.fits).live ∙ m.live

    entered_slots : (beam degree : ℕ) → EntryLive (O.view b) → EntryLive (O.view (delete_slots O beam degree b ss).0)
    entered_slots beam degree en s l =
        let v = O.view (delete_slots O beam degree b ss).0 in
        let u = O.view (entering O b ss) in
        let e : v.entry ≡ u.entry = entry_after_slots O n b beam degree ss ∙ sym (n.enters (cleared O b ss) (new_entry (O.view (cleared O b ss)) ss)) in
        let same : v.live ≡ u.live = live_after_slots beam degree in
        ap v.live e ∙ ap (λ (f : ℕ → Bool). f u.entry) same ∙ entered_entering en s (sym (ap (λ (f : ℕ → Bool). f s) same) ∙ l)

  module _ (b : B) (h : Fit b) (beam degree : ℕ) (ids : List ℕ) where
    pub entered_delete : EntryLive (O.view b) → EntryLive (O.view (delete_batch O beam degree b ids).0)
    unfolding delete_batch
    entered_delete = entered_slots b h (emptied (O.view b) ids) beam (max 1 degree)
