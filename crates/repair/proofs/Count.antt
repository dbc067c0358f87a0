-- A delete leaves as many live slots fewer as it empties, whatever ids it is given. Of the stored index and of the plain one, by what their operations do to
-- the marks (`Marking`). Assumes nothing.
use Prim.Native.Nat.{ℕ, max, ◌+◌, ◌<◌}
use mathlib.Core.Bool.{Bool, true, false, not, ◌&&◌, cond}
use mathlib.Core.Path.{◌≡◌, refl, ap, ap₂, sym, ◌∙◌}
use mathlib.Core.List.{List, [], ◌∷◌, map, map-id}
use native.Mathlib.Omega.{arith}
use borrow.Author.Tests.{lt-ltb}
use lib.Dec.{eqb, ltb}
use lib.ListN.{length}
use Rattle.std.proofs.lemmas.Bool.{and_parts, or_parts}
use Rattle.lists.specs.Lists.{All, filter, elem, range, foldl, concat_map, sort_by, distinct_by}
use Rattle.lists.proofs.All.{all_sort, filter_test}
use Rattle.lists.proofs.Filtered.{count_without}
use Rattle.lists.proofs.Firsts.{filter_same}
use Rattle.lists.proofs.Ranges.{times_once}
use Rattle.lists.proofs.Unique.{Unique, eqb_flip, unique_distinct, all_distinct}
use Rattle.slots.specs.Sizes.{Sizes}
use Rattle.slots.specs.View.{live_slots, emptied}
use Rattle.slots.specs.Ops.{Ops, Row, write_rows}
use Rattle.slots.proofs.Live.{Marked, Marking}
use Rattle.repair.specs.Repair.{repaired_rows}
use Rattle.repair.specs.Delete.{snapshot, new_entry, plan, delete_slots, delete_batch}

but_one : (p q : Bool) → cond q false p ≡ (p && not q)
but_one true true = refl
but_one true false = refl
but_one false true = refl
but_one false false = refl

module _ {B : Type 0} (O : Ops B) (Fit : B → Type 0) (k : Marking O Fit) where
  abbrev live_of : B → List ℕ
  live_of b = live_slots (O.view b)

  -- ---- what leaves the marks

  abbrev pub Kept : B → B → Type 0
  Kept b b' = Marked O Fit b (O.view b).live b'

  kept_then : (b b' b'' : B) → Kept b b' → Kept b' b'' → Kept b b''
  kept_then b b' b'' m n = record { fits = n.fits; sizes = n.sizes ∙ m.sizes; live = n.live ∙ m.live }

  same_live : (b b' : B) → Kept b b' → live_of b' ≡ live_of b
  same_live b b' m = ap₂ (λ (z : Sizes) (l : ℕ → Bool). filter l (range 0 z.capacity)) m.sizes m.live

  pub rows_kept : (rows : List Row) (b : B) → Fit b → Kept b (write_rows O b rows)
  rows_kept [] b h = record { fits = h; sizes = refl; live = refl }
  rows_kept (r ∷ rs) b h =
      let m = k.writes b h r.source r.targets in
      kept_then b (O.write b r.source r.targets) (write_rows O b (r ∷ rs)) m (rows_kept rs (O.write b r.source r.targets) m.fits)

  pub finishes_kept : (ss : List ℕ) (b : B) → Fit b → Kept b (foldl O.finish b ss)
  finishes_kept [] b h = record { fits = h; sizes = refl; live = refl }
  finishes_kept (s ∷ ss) b h =
      let m = k.finishes b h s in
      kept_then b (O.finish b s) (foldl O.finish b (s ∷ ss)) m (finishes_kept ss (O.finish b s) m.fits)

  -- ---- live slots are killed

  abbrev live_but : B → ℕ → ℕ → Bool
  live_but b s t = (O.view b).live t && not (eqb t s)

  killed : (b : B) (h : Fit b) (s : ℕ) → s < (O.view b).sizes.capacity → (t : ℕ) → (O.view (O.kill b s)).live t ≡ live_but b s t
  killed b h s i t = ap (λ (l : ℕ → Bool). l t) (k.kills b h s).live ∙ rw (lt-ltb s (O.view b).sizes.capacity i) (but_one ((O.view b).live t) (eqb t s))

  kill_count : (b : B) → Fit b → (s : ℕ) → (O.view b).live s ≡ true → length (live_of b) ≡ length (live_of (O.kill b s)) + 1
  kill_count b h s l =
      let c = (O.view b).sizes.capacity in
      let i : s < c = k.inside b h s l in
      let e : live_of (O.kill b s) ≡ filter (live_but b s) (range 0 c) =
      ap (λ (z : Sizes). filter (O.view (O.kill b s)).live (range 0 z.capacity)) (k.kills b h s).sizes
      ∙ filter_same (O.view (O.kill b s)).live (live_but b s) (killed b h s i) (range 0 c) in
      omega (arith, count_without (O.view b).live s l (range 0 c), times_once s 0 c (omega arith) (omega arith), ap length e)

  still_live : (b : B) (h : Fit b) (s : ℕ) → s < (O.view b).sizes.capacity → (ss : List ℕ) → elem s ss ≡ false → All (λ t. (O.view b).live t ≡ true) ss → All (λ t. (O.view (O.kill b s)).live t ≡ true) ss
  still_live b h s i [] u a = tt
  still_live b h s i (t ∷ ss) u a =
      let n : eqb t s ≡ false = eqb_flip s t (or_parts (eqb s t) (elem s ss) u).0 in
      (killed b h s i t ∙ rw (a.0, n), still_live b h s i ss (or_parts (eqb s t) (elem s ss) u).1 a.1)

  record Killed (b : B) (n : ℕ) (b' : B) : Type 0 where
    fits : Fit b'
    sizes : (O.view b').sizes ≡ (O.view b).sizes
    count : length (live_of b) ≡ length (live_of b') + n
    fewer : (t : ℕ) → (O.view b').live t ≡ true → (O.view b).live t ≡ true

  kills_count : (ss : List ℕ) (b : B) → Fit b → Unique ss → All (λ t. (O.view b).live t ≡ true) ss → Killed b (length ss) (foldl O.kill b ss)
  kills_count [] b h u a = record { fits = h; sizes = refl; count = omega arith; fewer = λ t e. e }
  kills_count (s ∷ ss) b h u a =
      let m = k.kills b h s in
      let r = kills_count ss (O.kill b s) m.fits u.1 (still_live b h s (k.inside b h s a.0) ss u.0 a.1) in
      record {
        fits = r.fits;
        sizes = r.sizes ∙ m.sizes;
        count = omega (arith, kill_count b h s a.0, r.count);
        fewer = λ t e. (and_parts ((O.view b).live t) (not (eqb t s)) (sym (killed b h s (k.inside b h s a.0) t) ∙ r.fewer t e)).0;
      }

  -- ---- the delete

  slots_count : (beam degree : ℕ) (b : B) (ss : List ℕ) → Fit b → Unique ss → All (λ t. (O.view b).live t ≡ true) ss → Killed b (length ss) (delete_slots O beam degree b ss).0
  unfolding delete_slots
  slots_count beam degree b ss h u a =
      let b₁ = foldl O.kill b ss in
      let b₂ = O.enter b₁ (new_entry (O.view b₁) ss) in
      let rows = repaired_rows (O.view b₂) (concat_map (λ p. p.links) (map (plan (O.view b₂) beam degree) (map (snapshot (O.view b)) ss))) in
      let b₃ = write_rows O b₂ rows in
      let b₄ = foldl O.finish b₃ ss in
      let r = kills_count ss b h u a in
      let m₂ = k.enters b₁ r.fits (new_entry (O.view b₁) ss) in
      let m₃ = kept_then b₁ b₂ b₃ m₂ (rows_kept rows b₂ m₂.fits) in
      let m₄ = kept_then b₁ b₃ b₄ m₃ (finishes_kept ss b₃ m₃.fits) in
      record {
        fits = m₄.fits;
        sizes = m₄.sizes ∙ r.sizes;
        count = r.count ∙ ap (λ (l : List ℕ). length l + length ss) (sym (same_live b₁ b₄ m₄));
        fewer = λ t e. r.fewer t (sym (ap (λ (l : ℕ → Bool). l t) m₄.live) ∙ e);
      }

  module _ (b : B) (h : Fit b) (beam degree : ℕ) (ids : List ℕ) where
    batch_count : Killed b (length (emptied (O.view b) ids)) (delete_batch O beam degree b ids).0
    unfolding delete_batch emptied
    batch_count =
        let live = (O.view b).live in
        let xs = sort_by ltb (filter live ids) in
        slots_count beam (max 1 degree) b (distinct_by (λ x. x) xs) h (rw (map-id (distinct_by (λ x. x) xs)) at (unique_distinct (λ x. x) xs))
        (all_distinct (λ x. x) (λ t. live t ≡ true) xs (all_sort (λ t. live t ≡ true) ltb (filter live ids) (filter_test live ids)))

    pub fits_after_delete : Fit (delete_batch O beam degree b ids).0
    fits_after_delete = batch_count.fits

    pub sizes_after_delete : (O.view (delete_batch O beam degree b ids).0).sizes ≡ (O.view b).sizes
    sizes_after_delete = batch_count.sizes

    pub live_after_delete : length (live_slots (O.view b)) ≡ length (live_slots (O.view (delete_batch O beam degree b ids).0)) + length (emptied (O.view b) ids)
    live_after_delete = batch_count.count

    -- a delete revives no slot
    pub none_revived : (s : ℕ) → (O.view (delete_batch O beam degree b ids).0).live s ≡ true → (O.view b).live s ≡ true
    none_revived = batch_count.fewer
