-- The entry after an insert: it is live wherever a slot is (document 02, E5). Of any index whose operations obey the laws of marks and of the entry (`Marking`,
-- `EntryLaws`). Assumes nothing.
use Prim.Native.Nat.{ℕ, zero, suc, ◌≤◌, ◌<◌}
use mathlib.Core.Bool.{Bool, true, false, not, ◌&&◌, cond}
use mathlib.Core.Path.{◌≡◌, refl, sym, ap, ◌∙◌}
use mathlib.Core.List.{List, [], ◌∷◌}
use native.Mathlib.Omega.{arith}
use borrow.Author.Tests.{eq-eqb, ne_eqb, eqb-true, lt-ltb}
use lib.Dec.{eqb, ltb}
use lib.ListN.{length, take}
use Rattle.lists.specs.Lists.{All, filter, foldl, chunks, range}
use Rattle.lists.proofs.All.{filter_test}
use Rattle.lists.proofs.Ranges.{filtered_below}
use Rattle.slots.specs.View.{View, EntryLive, live_slots, free_slots}
use Rattle.slots.specs.Ops.{Ops}
use Rattle.slots.specs.Plain.{at}
use Rattle.slots.proofs.Live.{Marking, EntryLaws, rows_entry, none_live}
use Rattle.insert.specs.Insert.{Filling, fillings, chunk_rows, insert_chunk, insert_batch, fill_all, first_entry, insert_entering}
use Rattle.insert.proofs.Free.{all_marked, filled_with, marked_after_insert}

-- ---- marks

-- a slot that is live stays so
marked_stays : (capacity : ℕ) (live : ℕ → Bool) (fs : List Filling) (t : ℕ) → live t ≡ true → all_marked capacity live fs t ≡ true
marked_stays capacity live [] t h = h
marked_stays capacity live (f ∷ fs) t h = marked_stays capacity (at capacity live f.slot true) fs t (go (ltb f.slot capacity && eqb t f.slot))
  where
    go : (q : Bool) → cond q true (live t) ≡ true
    go true = refl
    go false = h

-- the first entry is live once these slots are filled, where one of them is or another was live
module _ (v : View) (inside : (s : ℕ) → v.live s ≡ true → s < v.sizes.capacity) (entered : EntryLive v) (vectors : List (List ℕ)) where
  abbrev slots : List ℕ
  slots = take (length vectors) (free_slots v)

  abbrev live : ℕ → Bool
  live = all_marked v.sizes.capacity v.live (filled_with (free_slots v) vectors)

  -- where a slot was live, the entry was, and stays
  was_live : 0 < length (live_slots v) → live (first_entry v slots) ≡ true
  unfolding first_entry
  was_live h =
      marked_stays v.sizes.capacity v.live (filled_with (free_slots v) vectors) (first_entry v slots)
      (rw (same slots) (some (live_slots v) (filter_test v.live (range 0 v.sizes.capacity)) h))
    where
      some : (l : List ℕ) → All (λ s. v.live s ≡ true) l → 0 < length l → v.live v.entry ≡ true
      some [] a h = absurd (omega arith)
      some (s ∷ l) a h = entered s a.0

      same : (ss : List ℕ) → first_entry v ss ≡ v.entry
      same [] = refl
      same (s ∷ ss) = go (eqb (length (live_slots v)) 0) refl
        where
          go : (q : Bool) → eqb (length (live_slots v)) 0 ≡ q → cond q s v.entry ≡ v.entry
          go true e = absurd (omega (arith, eqb-true (length (live_slots v)) 0 e))
          go false e = refl

  -- where none was, one is that is filled, and the first of these is the entry
  none_was : length (live_slots v) ≡ 0 → (s : ℕ) → live s ≡ true → live (first_entry v slots) ≡ true
  unfolding first_entry
  none_was h s l = go (free_slots v) (filtered_below (λ t. not (v.live t)) v.sizes.capacity) vectors l
    where
      go : (ss : List ℕ) → All (λ t. t < v.sizes.capacity) ss → (xs : List (List ℕ)) → all_marked v.sizes.capacity v.live (filled_with ss xs) s ≡ true
          → all_marked v.sizes.capacity v.live (filled_with ss xs) (first_entry v (take (length xs) ss)) ≡ true
      go [] a xs l = absurd (none_live v inside h s l)
      go (t ∷ ss) a [] l = absurd (none_live v inside h s l)
      go (t ∷ ss) a (x ∷ xs) l =
          rw h (marked_stays v.sizes.capacity (at v.sizes.capacity v.live t true) (filled_with ss xs) t (rw (lt-ltb t v.sizes.capacity a.0, eq-eqb t t refl)))

  first_live : (s : ℕ) → live s ≡ true → live (first_entry v slots) ≡ true
  first_live s l = go (length (live_slots v)) refl
    where
      go : (n : ℕ) → length (live_slots v) ≡ n → live (first_entry v slots) ≡ true
      go zero e = none_was e s l
      go (suc n) e = was_live (omega (arith, e))

-- ---- which slot the first entry is: slot 0 where none is live and one is filled

-- where none is live, the first free slot is slot 0
first_free : (live : ℕ → Bool) (n : ℕ) → length (filter live (range 0 n)) ≡ 0 → (s : ℕ) (ss : List ℕ) → filter (λ t. not (live t)) (range 0 n) ≡ s ∷ ss → s ≡ 0
first_free live zero h s ss e = cc
first_free live (suc n) h s ss e = go (live 0) h e
  where
    go : (q : Bool) → length (cond q (0 ∷ filter live (range 1 n)) (filter live (range 1 n))) ≡ 0
        → cond (not q) (0 ∷ filter (λ t. not (live t)) (range 1 n)) (filter (λ t. not (live t)) (range 1 n)) ≡ s ∷ ss → s ≡ 0
    go true k f = absurd (omega (arith, k))
    go false k f = cc

pub first_is : (v : View) (n : ℕ) → n ≤ length (free_slots v)
    → first_entry v (take n (free_slots v)) ≡ cond (eqb (length (live_slots v)) 0 && not (eqb n 0)) 0 v.entry
unfolding first_entry
first_is v zero h = go (eqb (length (live_slots v)) 0)
  where
    go : (q : Bool) → v.entry ≡ cond (q && false) 0 v.entry
    go true = refl
    go false = refl
first_is v (suc n) h = rw (ne_eqb (suc n) 0 (λ e. omega (arith, e))) (go (free_slots v) refl h)
  where
    go : (l : List ℕ) → free_slots v ≡ l → suc n ≤ length l → first_entry v (take (suc n) l) ≡ cond (eqb (length (live_slots v)) 0 && true) 0 v.entry
    go [] e k = absurd (omega (arith, k))
    go (s ∷ ss) e k = by (eqb (length (live_slots v)) 0) refl
      where
        by : (q : Bool) → eqb (length (live_slots v)) 0 ≡ q → cond q s v.entry ≡ cond (q && true) 0 v.entry
        by true f = first_free v.live v.sizes.capacity (eqb-true (length (live_slots v)) 0 f) s ss e
        by false f = refl

module _ {B : Type 0} (O : Ops B) (n : EntryLaws O) where
  fills_entry : (b : B) (fs : List Filling) → (O.view (fill_all O b fs)).entry ≡ (O.view b).entry
  fills_entry b [] = refl
  fills_entry b (f ∷ fs) = fills_entry (O.fill b f.slot f.vector) fs ∙ n.fills b f.slot f.vector

  chunks_entry : (beam : ℕ) (b : B) (cs : List (List Filling)) → (O.view (foldl (insert_chunk O beam) b cs)).entry ≡ (O.view b).entry
  unfolding insert_chunk
  chunks_entry beam b [] = refl
  chunks_entry beam b (c ∷ cs) =
      let b₁ = fill_all O b c in
      chunks_entry beam (insert_chunk O beam b c) cs ∙ rows_entry O n (chunk_rows (O.view b₁) beam c) b₁ ∙ fills_entry b c

  pub entry_after_insert : (beam : ℕ) (b : B) (vectors : List (List ℕ))
      → (O.view (insert_entering O beam b vectors)).entry ≡ first_entry (O.view b) (take (length vectors) (free_slots (O.view b)))
  unfolding insert_entering insert_batch
  entry_after_insert beam b vectors =
      let f = first_entry (O.view b) (take (length vectors) (free_slots (O.view b))) in
      let b₁ = O.enter b f in
      chunks_entry beam b₁ (chunks (length vectors) 256 (fillings (O.view b₁) vectors)) ∙ n.enters b f

module _ {B : Type 0} (O : Ops B) (Fit : B → Type 0) (n : EntryLaws O) (k : Marking O Fit) where
  pub entered_insert : (beam : ℕ) (b : B) → Fit b → EntryLive (O.view b) → (vectors : List (List ℕ)) → EntryLive (O.view (insert_entering O beam b vectors))
  entered_insert beam b h entered vectors s l =
      let m = marked_after_insert O Fit k b h beam vectors in
      ap (O.view (insert_entering O beam b vectors)).live (entry_after_insert O n beam b vectors)
      ∙ ap (λ (f : ℕ → Bool). f (first_entry (O.view b) (take (length vectors) (free_slots (O.view b))))) m
      ∙ first_live (O.view b) (k.inside b h) entered vectors s (sym (ap (λ (f : ℕ → Bool). f s) m) ∙ l)
