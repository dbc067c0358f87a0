-- The free slots after an insert: those before it, less the first, one for each vector; so as many more are live. Of the stored index and of the plain
-- one, by what their operations do to the marks (`Marking`). Assumes nothing.
use Prim.Native.Nat.{ℕ, suc, ◌+◌, ◌-◌, ◌≤◌, ◌<◌}
use mathlib.Core.Bool.{Bool, true, false, not, ◌&&◌, cond}
use mathlib.Core.Path.{◌≡◌, refl, ap, ap₂, sym, ◌∙◌, subst}
use mathlib.Core.List.{List, [], ◌∷◌, map}
use native.Mathlib.Omega.{arith}
use borrow.Author.Tests.{eq-eqb, lt-ltb}
use lib.Dec.{eqb}
use lib.ListN.{length, take, drop, length-drop}
use Rattle.lists.specs.Lists.{All, filter, foldl, range, concat_map, chunks, zip}
use Rattle.lists.proofs.Filter.{filter_and}
use Rattle.lists.proofs.Firsts.{filter_same, eqb_comm}
use Rattle.lists.proofs.Ranges.{filtered_below, foldl_append}
use Rattle.lists.proofs.Sweep.{RisingFrom, rising_range, rising_rest, rising_above}
use Rattle.slots.specs.Sizes.{Sizes}
use Rattle.slots.specs.View.{live_slots, free_slots}
use Rattle.slots.specs.Ops.{Ops, Row, write_rows}
use Rattle.slots.specs.Plain.{at}
use Rattle.slots.proofs.Live.{live_and_free, Marked, Marking}
use Rattle.insert.specs.Insert.{Filling, fillings, chunk_rows, insert_chunk, insert_batch, fill_all, first_entry, insert_entering}
use Rattle.insert.proofs.Chunks.{fillings_whole}

-- ---- by marks and capacity alone

abbrev free_in : ℕ → (ℕ → Bool) → List ℕ
free_in capacity live = filter (λ s. not (live s)) (range 0 capacity)

abbrev pub all_marked : ℕ → (ℕ → Bool) → List Filling → ℕ → Bool
all_marked capacity live fs = foldl (λ (l : ℕ → Bool) (f : Filling). at capacity l f.slot true) live fs

abbrev pub filled_with : List ℕ → List (List ℕ) → List Filling
filled_with slots vectors = map (λ p. record { slot = p.0; vector = p.1 }) (zip slots vectors)

module _ (capacity : ℕ) where
  -- the first free slot is marked: the others are left
  free_less : (live : ℕ → Bool) (s : ℕ) (rest : List ℕ) → free_in capacity live ≡ s ∷ rest → free_in capacity (at capacity live s true) ≡ rest
  free_less live s rest e =
      let a : All (λ t. t < capacity) (free_in capacity live) = filtered_below (λ t. not (live t)) capacity in
      let h : s < capacity = (subst (All (λ t. t < capacity)) e a).0 in
      let u : RisingFrom 0 (s ∷ rest) = subst (RisingFrom 0) e (rising_range (λ t. not (live t)) 0 capacity) in
      filter_same (λ t. not (at capacity live s true t)) (λ t. not (eqb s t) && not (live t)) (others h) (range 0 capacity)
      ∙ filter_and (λ t. not (eqb s t)) (λ t. not (live t)) (range 0 capacity)
      ∙ ap (filter (λ t. not (eqb s t))) e
      ∙ rw (eq-eqb s s refl) (rising_above s (suc s) rest (omega arith) (rising_rest u))
    where
      others : s < capacity → (t : ℕ) → not (at capacity live s true t) ≡ (not (eqb s t) && not (live t))
      others h t = rw (lt-ltb s capacity h, eqb_comm t s) (go (eqb s t))
        where
          go : (c : Bool) → not (cond c true (live t)) ≡ (not c && not (live t))
          go true = refl
          go false = refl

  pub free_after_filling : (live : ℕ → Bool) (vectors : List (List ℕ))
      → free_in capacity (all_marked capacity live (filled_with (free_in capacity live) vectors)) ≡ drop (length vectors) (free_in capacity live)
  free_after_filling live [] = none (free_in capacity live)
    where
      none : (ss : List ℕ) → free_in capacity (all_marked capacity live (filled_with ss [])) ≡ free_in capacity live
      none [] = refl
      none (s ∷ ss) = refl
  free_after_filling live (v ∷ vs) = go (free_in capacity live) refl (λ (l : ℕ → Bool). free_after_filling l vs)
    where
      go : (ss : List ℕ) → free_in capacity live ≡ ss
          → ((l : ℕ → Bool) → free_in capacity (all_marked capacity l (filled_with (free_in capacity l) vs)) ≡ drop (length vs) (free_in capacity l))
          → free_in capacity (all_marked capacity live (filled_with ss (v ∷ vs))) ≡ drop (suc (length vs)) ss
      go [] e r = e
      go (s ∷ ss) e r =
          let l = at capacity live s true in
          let f : free_in capacity l ≡ ss = free_less live s ss e in
          subst (λ (x : List ℕ). free_in capacity (all_marked capacity l (filled_with x vs)) ≡ drop (length vs) x) f (r l)

-- ---- an index

module _ {B : Type 0} (O : Ops B) (Fit : B → Type 0) (k : Marking O Fit) where
  -- what has the marks of the fillings, and the sizes
  abbrev Filled : B → List Filling → B → Type 0
  Filled b fs b' = Marked O Fit b (all_marked (O.view b).sizes.capacity (O.view b).live fs) b'

  fills_marked : (b : B) → Fit b → (fs : List Filling) → Filled b fs (fill_all O b fs)
  fills_marked b h [] = record { fits = h; sizes = refl; live = refl }
  fills_marked b h (f ∷ fs) =
      let e = k.fills b h f.slot f.vector in
      let r = fills_marked (O.fill b f.slot f.vector) e.fits fs in
      record {
        fits = r.fits;
        sizes = r.sizes ∙ e.sizes;
        live = r.live ∙ ap₂ (λ (z : Sizes) (l : ℕ → Bool). all_marked z.capacity l fs) e.sizes e.live;
      }

  pub rows_marked : (b b' : B) (fs : List Filling) → Filled b fs b' → (rows : List Row) → Filled b fs (write_rows O b' rows)
  rows_marked b b' fs m [] = m
  rows_marked b b' fs m (r ∷ rows) =
      let e = k.writes b' m.fits r.source r.targets in
      rows_marked b (O.write b' r.source r.targets) fs (record { fits = e.fits; sizes = e.sizes ∙ m.sizes; live = e.live ∙ m.live }) rows

  chunk_marked : (beam : ℕ) (b : B) → Fit b → (fs : List Filling) → Filled b fs (insert_chunk O beam b fs)
  unfolding insert_chunk
  chunk_marked beam b h fs = let b₁ = fill_all O b fs in rows_marked b b₁ fs (fills_marked b h fs) (chunk_rows (O.view b₁) beam fs)

  chunks_marked : (beam : ℕ) (b : B) → Fit b → (cs : List (List Filling)) → Filled b (concat_map (λ c. c) cs) (foldl (insert_chunk O beam) b cs)
  chunks_marked beam b h [] = record { fits = h; sizes = refl; live = refl }
  chunks_marked beam b h (c ∷ cs) =
      let e = chunk_marked beam b h c in
      let r = chunks_marked beam (insert_chunk O beam b c) e.fits cs in
      let fs = concat_map (λ c. c) cs in
      record {
        fits = r.fits;
        sizes = r.sizes ∙ e.sizes;
        live = r.live
            ∙ ap₂ (λ (z : Sizes) (l : ℕ → Bool). all_marked z.capacity l fs) e.sizes e.live
            ∙ sym (foldl_append (λ (l : ℕ → Bool) (f : Filling). at (O.view b).sizes.capacity l f.slot true) (O.view b).live c fs);
      }

  -- ---- after a batch

  module _ (b : B) (h : Fit b) (beam : ℕ) (vectors : List (List ℕ)) where
    batch_marked : Filled b (fillings (O.view b) vectors) (insert_batch O beam b vectors)
    unfolding insert_batch
    batch_marked =
        let cs = chunks (length vectors) 256 (fillings (O.view b) vectors) in
        subst (λ (fs : List Filling). Filled b fs (foldl (insert_chunk O beam) b cs)) (fillings_whole (O.view b) vectors) (chunks_marked beam b h cs)

    pub sizes_after_batch : (O.view (insert_batch O beam b vectors)).sizes ≡ (O.view b).sizes
    sizes_after_batch = batch_marked.sizes

  -- ---- after an insert

  module _ (b : B) (h : Fit b) (beam : ℕ) (vectors : List (List ℕ)) where
    abbrev begun : B
    begun = O.enter b (first_entry (O.view b) (take (length vectors) (free_slots (O.view b))))

    abbrev after : B
    after = insert_entering O beam b vectors

    begun_marked : Marked O Fit b (O.view b).live begun
    begun_marked = k.enters b h _

    after_marked : Filled begun (fillings (O.view begun) vectors) after
    unfolding insert_entering
    after_marked = batch_marked begun begun_marked.fits beam vectors

    pub fits_after_insert : Fit after
    fits_after_insert = after_marked.fits

    pub sizes_after_insert : (O.view after).sizes ≡ (O.view b).sizes
    sizes_after_insert = after_marked.sizes ∙ begun_marked.sizes

    -- the slots that are free when the batch begins are those that were free before
    pub begun_free : free_slots (O.view begun) ≡ free_slots (O.view b)
    begun_free = ap₂ (λ (z : Sizes) (l : ℕ → Bool). free_in z.capacity l) begun_marked.sizes begun_marked.live

    -- what is live after it, by what was before
    pub marked_after_insert : (O.view after).live ≡ all_marked (O.view b).sizes.capacity (O.view b).live (filled_with (free_slots (O.view b)) vectors)
    unfolding fillings
    marked_after_insert = after_marked.live ∙ (λ i. all_marked ((begun_marked.sizes i).capacity) (begun_marked.live i) (filled_with (begun_free i) vectors))

    pub free_after_insert : free_slots (O.view after) ≡ drop (length vectors) (free_slots (O.view b))
    free_after_insert =
        ap₂ (λ (z : Sizes) (l : ℕ → Bool). free_in z.capacity l) sizes_after_insert marked_after_insert
        ∙ free_after_filling (O.view b).sizes.capacity (O.view b).live vectors

    pub live_after_insert : length vectors ≤ length (free_slots (O.view b)) → length (live_slots (O.view after)) ≡ length (live_slots (O.view b)) + length vectors
    live_after_insert few =
        let f : length (free_slots (O.view after)) ≡ length (free_slots (O.view b)) - length vectors = ap length free_after_insert ∙ simp length-drop in
        let c : (O.view after).sizes.capacity ≡ (O.view b).sizes.capacity = ap (λ z. z.capacity) sizes_after_insert in
        omega (arith, f, c, live_and_free (O.view after), live_and_free (O.view b))
