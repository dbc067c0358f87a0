-- Two indexes that differ only in the vectors of dead slots, and, where no slot is live, in the entry: an insert leaves two such. Of any index whose
-- operations obey the laws. Assumes nothing.
use Prim.Native.Nat.{ℕ, zero, suc}
use mathlib.Core.Bool.{true, cond}
use mathlib.Core.Path.{◌≡◌, refl, sym, ap, ◌∙◌, subst}
use mathlib.Core.List.{List, [], ◌∷◌}
use native.Mathlib.Omega.{arith}
use lib.Dec.{eqb}
use lib.ListN.{length, take}
use Rattle.lists.specs.Lists.{All, foldl, chunks, range}
use Rattle.lists.proofs.All.{filter_test}
use Rattle.slots.specs.Sizes.{Sizes}
use Rattle.slots.specs.View.{View, Alike, live_slots, free_slots}
use Rattle.slots.specs.Ops.{Ops, Row, write_rows}
use Rattle.slots.proofs.Live.{Marking, EntryLaws, rows_entry}
use Rattle.slots.proofs.Alike.{Twins, twin_rows}
use Rattle.insert.specs.Insert.{Filling, fillings, chunk_rows, insert_chunk, insert_batch, fill_all, first_entry, insert_entering}
use Rattle.insert.proofs.Agree.{Long, LongFills, LongChunks, long_chunks, long_zip}
use Rattle.insert.proofs.Alike.{chunk_rows_alike}
use Rattle.insert.proofs.Free.{filled_with, rows_marked, begun_free}
use Rattle.insert.proofs.Entry.{entry_after_insert}

module _ {B : Type 0} (O : Ops B) (Fit : B → Type 0) (k : Marking O Fit) (e : EntryLaws O) (Twin : B → B → Type 0) (t : Twins O Twin) where
  -- while a batch goes on: the entries are equal, whether a slot is live or not
  record Going (d : ℕ) (b b' : B) : Type 0 where
    twin : Twin b b'
    entry : (O.view b').entry ≡ (O.view b).entry
    fits : Fit b
    dim : (O.view b).sizes.dim ≡ d

  module _ (d : ℕ) where
    going_fills : (b b' : B) → Going d b b' → (fs : List Filling) → LongFills d fs → Going d (fill_all O b fs) (fill_all O b' fs)
    going_fills b b' g [] l = g
    going_fills b b' g (f ∷ fs) l =
        let m = k.fills b g.fits f.slot f.vector in
        going_fills (O.fill b f.slot f.vector) (O.fill b' f.slot f.vector)
        (record {
          twin = t.fills b b' g.twin g.entry f.slot f.vector (l.0 ∙ sym g.dim);
          entry = e.fills b' f.slot f.vector ∙ g.entry ∙ sym (e.fills b f.slot f.vector);
          fits = m.fits;
          dim = ap (λ (z : Sizes). z.dim) m.sizes ∙ g.dim;
        })
        fs l.1

    going_rows : (b b' : B) → Going d b b' → (rows : List Row) → Going d (write_rows O b rows) (write_rows O b' rows)
    going_rows b b' g rows =
        let m = rows_marked O Fit k b b [] (record { fits = g.fits; sizes = refl; live = refl }) rows in
        record {
          twin = twin_rows O Twin t b b' g.twin rows;
          entry = rows_entry O e rows b' ∙ g.entry ∙ sym (rows_entry O e rows b);
          fits = m.fits;
          dim = ap (λ (z : Sizes). z.dim) m.sizes ∙ g.dim;
        }

    going_chunks : (beam : ℕ) (b b' : B) → Going d b b' → (cs : List (List Filling)) → LongChunks d cs
        → Going d (foldl (insert_chunk O beam) b cs) (foldl (insert_chunk O beam) b' cs)
    unfolding insert_chunk
    going_chunks beam b b' g [] l = g
    going_chunks beam b b' g (c ∷ cs) l =
        let b₁ = fill_all O b c in
        let b₁' = fill_all O b' c in
        let g₁ = going_fills b b' g c l.0 in
        let rows = chunk_rows (O.view b₁) beam c in
        going_chunks beam (insert_chunk O beam b c) (insert_chunk O beam b' c)
        (subst (λ rows'. Going d (write_rows O b₁ rows) (write_rows O b₁' rows')) (chunk_rows_alike (O.view b₁) (O.view b₁') (t.shows b₁ b₁' g₁.twin) beam c)
        (going_rows b₁ b₁' g₁ rows)) cs l.1

  -- the free slots are the same, and where one is filled so are the first entries
  module _ (v v' : View) (a : Alike v v') where
    same_free : free_slots v' ≡ free_slots v
    same_free = ap free_slots a.others

    same_live : live_slots v' ≡ live_slots v
    same_live = ap live_slots a.others

    live_first : (ss : List ℕ) (s : ℕ) → v.live s ≡ true → first_entry v' ss ≡ first_entry v ss
    unfolding first_entry
    live_first [] s h = a.entry s h
    live_first (x ∷ ss) s h = λ i. cond (eqb (length (same_live i)) 0) x (a.entry s h i)

    filled_first : (x : ℕ) (ss : List ℕ) → first_entry v' (x ∷ ss) ≡ first_entry v (x ∷ ss)
    unfolding first_entry
    filled_first x ss = go (live_slots v) refl (filter_test v.live (range 0 v.sizes.capacity))
      where
        go : (l : List ℕ) → live_slots v ≡ l → All (λ s. v.live s ≡ true) l
            → cond (eqb (length (live_slots v')) 0) x v'.entry ≡ cond (eqb (length (live_slots v)) 0) x v.entry
        go [] q h = rw (same_live, q) refl
        go (s ∷ l) q h = λ i. cond (eqb (length (same_live i)) 0) x (a.entry s h.0 i)

  no_first : (v v' : View) → v'.entry ≡ v.entry → first_entry v' [] ≡ first_entry v []
  unfolding first_entry
  no_first v v' q = q

  none_filled : (v : View) (vectors : List (List ℕ)) → take (length vectors) (free_slots v) ≡ [] → fillings v vectors ≡ []
  unfolding fillings
  none_filled v vectors = go (free_slots v) vectors
    where
      go : (ss : List ℕ) (xs : List (List ℕ)) → take (length xs) ss ≡ [] → filled_with ss xs ≡ []
      go [] xs h = refl
      go (s ∷ ss) [] h = refl
      go (s ∷ ss) (x ∷ xs) h = absurd (let z : ◌≡◌ {A = ℕ} 0 1 = cc in omega arith)

  no_chunks : (n : ℕ) (fs : List Filling) → fs ≡ [] → chunks n 256 fs ≡ []
  no_chunks zero fs q = refl
  no_chunks (suc n) fs q = ap (chunks (suc n) 256) q

  -- once the entry is set
  module _ (beam : ℕ) (b b' : B) (w : Twin b b') (h : Fit b) (vectors : List (List ℕ)) (l : Long (O.view b).sizes.dim vectors) where
    abbrev n : ℕ
    n = length vectors

    abbrev slots : List ℕ
    slots = take n (free_slots (O.view b))

    abbrev f : ℕ
    f = first_entry (O.view b) slots

    abbrev f' : ℕ
    f' = first_entry (O.view b') (take n (free_slots (O.view b')))

    abbrev b₁ : B
    b₁ = O.enter b f

    abbrev b₁' : B
    b₁' = O.enter b' f'

    alike : Alike (O.view b) (O.view b')
    alike = t.shows b b' w

    same_slots : f' ≡ first_entry (O.view b') slots
    same_slots = ap (λ ss. first_entry (O.view b') (take n ss)) (same_free (O.view b) (O.view b') alike)

    begun : Twin b₁ b₁'
    begun = t.enters b b' w f f' (λ s k. same_slots ∙ live_first (O.view b) (O.view b') alike slots s k)

    abbrev fs : List Filling
    fs = fillings (O.view b₁) vectors

    same_fillings : fillings (O.view b₁') vectors ≡ fs
    unfolding fillings
    same_fillings = ap (λ u. fillings u vectors) (t.shows b₁ b₁' begun).others

    going : f' ≡ f → Going (O.view b).sizes.dim b₁ b₁'
    going q = record {
      twin = begun;
      entry = e.enters b' f' ∙ q ∙ sym (e.enters b f);
      fits = (k.enters b h f).fits;
      dim = ap (λ (z : Sizes). z.dim) (k.enters b h f).sizes;
    }

    long : LongChunks (O.view b).sizes.dim (chunks n 256 fs)
    unfolding fillings
    long = let d = (O.view b).sizes.dim in long_chunks d n 256 fs (long_zip d (free_slots (O.view b₁)) vectors l)

    by_chunks : Twin (foldl (insert_chunk O beam) b₁ (chunks n 256 fs)) (foldl (insert_chunk O beam) b₁' (chunks n 256 fs))
    by_chunks = go slots refl
      where
        go : (ss : List ℕ) → slots ≡ ss → Twin (foldl (insert_chunk O beam) b₁ (chunks n 256 fs)) (foldl (insert_chunk O beam) b₁' (chunks n 256 fs))
        go [] q =
            let none : fs ≡ [] = none_filled (O.view b₁) vectors (ap (take n) (begun_free O Fit k b h beam vectors) ∙ q) in
            subst (λ cs. Twin (foldl (insert_chunk O beam) b₁ cs) (foldl (insert_chunk O beam) b₁' cs)) (sym (no_chunks n fs none)) begun
        go (x ∷ ss) q =
            let same : f' ≡ f =
            same_slots
            ∙ subst (λ ys. first_entry (O.view b') ys ≡ first_entry (O.view b) ys) (sym q) (filled_first (O.view b) (O.view b') alike x ss) in
            (going_chunks (O.view b).sizes.dim beam b₁ b₁' (going same) (chunks n 256 fs) long).twin

    pub twin_insert : Twin (insert_entering O beam b vectors) (insert_entering O beam b' vectors)
    unfolding insert_entering insert_batch
    twin_insert =
        subst (λ fs'. Twin (foldl (insert_chunk O beam) b₁ (chunks n 256 fs)) (foldl (insert_chunk O beam) b₁' (chunks n 256 fs')))
        (sym same_fillings) by_chunks

    -- equal entries stay equal
    pub inserted_entry : (O.view b').entry ≡ (O.view b).entry
        → (O.view (insert_entering O beam b' vectors)).entry ≡ (O.view (insert_entering O beam b vectors)).entry
    inserted_entry same = entry_after_insert O e beam b' vectors ∙ same_slots ∙ go slots ∙ sym (entry_after_insert O e beam b vectors)
      where
        go : (ss : List ℕ) → first_entry (O.view b') ss ≡ first_entry (O.view b) ss
        go [] = no_first (O.view b) (O.view b') same
        go (x ∷ ss) = filled_first (O.view b) (O.view b') alike x ss
