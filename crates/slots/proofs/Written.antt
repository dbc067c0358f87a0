-- A row that is written: what it holds, that the other rows stay, and that the order of writes of different rows does not matter. Assumes nothing.
use Rattle.std.proofs.Common.{◌≡◌, ℕ, zero, suc, ◌+◌, ◌*◌, ◌<◌, ◌≤◌, Bool, true, false, cond, eqb, ◌≢◌, List, [], ◌∷◌, ◌++◌, map, length, get_or, take, set, replicate, sym, refl, ap, ◌∙◌, arith, get_or-take}
use lib.ListN.{length-map, get_or-replicate}
use lib.Seq.{take-nil}
use Rattle.std.proofs.lemmas.List.{get_or-map}
use Rattle.lists.specs.Lists.{filter, part, put_part}
use Rattle.lists.proofs.Parts.{fits_in, length_put, part_put, put_again, put_both}
use Rattle.lists.proofs.Pasting.{Pasting, pasting_more, pasted_part}
use Rattle.slots.specs.Store.{Arrays, arrays, Shaped, blank, current, refs_of, padded, edge_version, write_neighbors}
use Rattle.slots.specs.Plain.{other_than}
use Rattle.slots.specs.Inner.Writing.{Wrote}
use Rattle.slots.proofs.Done.{wrote_by}
use Rattle.slots.proofs.Current.{current_written, padded_targets, length_padded}

-- the edge versions of a row as it is written
abbrev pub new_edges : ℕ → List ℕ → List ℕ → List ℕ
new_edges d versions ids = map (edge_version versions) (padded d ids)

pub length_new_edges : (d : ℕ) (versions ids : List ℕ) → length (new_edges d versions ids) ≡ d
length_new_edges d versions ids = length-map (padded d ids) (edge_version versions) ∙ length_padded d ids

-- ---- the loop that writes a row

padded_from : (ids : List ℕ) (n p : ℕ) → p < n → get_or (ids ++ replicate n blank) p 0 ≡ get_or ids p blank
padded_from [] n p h = get_or-replicate n p blank 0 h
padded_from (x ∷ ids) n zero h = refl
padded_from (x ∷ ids) n (suc p) h = padded_from ids n p (omega arith)

padded_at : (d : ℕ) (ids : List ℕ) (p : ℕ) → p < d → get_or (padded d ids) p 0 ≡ get_or ids p blank
padded_at d ids p h = get_or-take d (ids ++ replicate d blank) p 0 h ∙ padded_from ids d p h

-- the places before this one are written
pub record Writing (d : ℕ) (targets edges versions : List ℕ) (s : ℕ) (ids : List ℕ) (place : ℕ) (targets' edges' : List ℕ) : Type 0 where
  pub below : place ≤ d
  pub row : Pasting targets (s * d) (padded d ids) place targets'
  pub row_edges : Pasting edges (s * d) (new_edges d versions ids) place edges'

pub writing_more : {d : ℕ} {targets edges versions : List ℕ} {s : ℕ} {ids : List ℕ} {place : ℕ} {targets' edges' : List ℕ} {id version : ℕ}
    → s * d + d ≤ length targets → s * d + d ≤ length edges → place < d → id ≡ get_or ids place blank → version ≡ edge_version versions id
    → Writing d targets edges versions s ids place targets' edges'
    → Writing d targets edges versions s ids (place + 1) (set targets' (s * d + place) id) (set edges' (s * d + place) version)
writing_more {d} {versions = versions} {ids = ids} {place = place} {id = id} ft fe h e v w =
    let k : place < length (padded d ids) = rw (length_padded d ids) h in
    let t : id ≡ get_or (padded d ids) place 0 = e ∙ sym (padded_at d ids place h) in
    record {
      below = omega arith;
      row = pasting_more (omega arith) k t w.row;
      row_edges = pasting_more (omega arith) (rw (length_new_edges d versions ids) h)
          (v ∙ ap (edge_version versions) t ∙ sym (get_or-map (edge_version versions) (padded d ids) place 0 0 k)) w.row_edges;
    }

pub writing_done : {d : ℕ} {targets edges versions : List ℕ} {s : ℕ} {ids : List ℕ} {place : ℕ} {targets' edges' : List ℕ}
    → d ≤ place → Writing d targets edges versions s ids place targets' edges' → Wrote d targets edges versions s ids targets' edges'
unfolding write_neighbors
writing_done {d} {versions = versions} {s = s} {ids = ids} {place = place} h w =
    let e : place ≡ d = omega (arith, w.below) in
    wrote_by (λ measure dim vectors marks i.
    arrays measure dim d vectors (pasted_part s (length_padded d ids) e w.row i) (pasted_part s (length_new_edges d versions ids) e w.row_edges i) versions marks)

-- ---- a row replaced

module _ (versions ts es xs ys : List ℕ) (d s : ℕ) (ft : s * d + d ≤ length ts) (fe : s * d + d ≤ length es) (lx : length xs ≡ d) (ly : length ys ≡ d) where
  current_put : (t : ℕ) → current versions (part d t (put_part d s xs ts)) (part d t (put_part d s ys es))
      ≡ cond (eqb t s) (current versions xs ys) (current versions (part d t ts) (part d t es))
  current_put t = rw (part_put d s xs ts lx ft t, part_put d s ys es ly fe t) (go (eqb t s))
    where
      go : (b : Bool) → current versions (cond b xs (part d t ts)) (cond b ys (part d t es)) ≡ cond b (current versions xs ys) (current versions (part d t ts) (part d t es))
      go true = refl
      go false = refl

module _ (n : ℕ) (a : Arrays) (f : Shaped n a) (s : ℕ) (h : s < n) where
  -- a slot's row is inside both slices
  pub row_fits : (s * a.degree + a.degree ≤ length a.targets) × (s * a.degree + a.degree ≤ length a.edges)
  row_fits = (fits_in a.degree n s (length a.targets) h f.targets_long, fits_in a.degree n s (length a.edges) h f.edges_long)

  pub shaped_written : (ids : List ℕ) → Shaped n (write_neighbors a s ids)
  unfolding write_neighbors
  shaped_written ids = record {
    vectors_long = f.vectors_long;
    targets_long = length_put a.degree s (padded a.degree ids) a.targets (length_padded a.degree ids) row_fits.0 ∙ f.targets_long;
    edges_long = length_put a.degree s (new_edges a.degree a.versions ids) a.edges (length_new_edges a.degree a.versions ids) row_fits.1 ∙ f.edges_long;
    versions_long = f.versions_long;
    marks_long = f.marks_long;
  }

  -- the row is the ids without the blanks, as far as they fit, and every other row is as it was
  pub refs_written : (ids : List ℕ) (t : ℕ) → refs_of (write_neighbors a s ids) t ≡ cond (eqb t s) (filter (other_than blank) (take a.degree ids)) (refs_of a t)
  unfolding refs_of write_neighbors
  refs_written ids t =
      let d = a.degree in
      current_put a.versions a.targets a.edges (padded d ids) (new_edges d a.versions ids) d s row_fits.0 row_fits.1
      (length_padded d ids) (length_new_edges d a.versions ids) t
      ∙ ap (λ (r : List ℕ). cond (eqb t s) r (refs_of a t)) (current_written a.versions (padded d ids) ∙ padded_targets d d ids)

  -- `fill_neighbors`
  pub refs_emptied : (t : ℕ) → refs_of (write_neighbors a s []) t ≡ cond (eqb t s) [] (refs_of a t)
  refs_emptied t = refs_written [] t ∙ ap (λ (r : List ℕ). cond (eqb t s) (filter (other_than blank) r) (refs_of a t)) (take-nil a.degree)

  -- the last write of a row stays
  pub write_again : (xs ys : List ℕ) → write_neighbors (write_neighbors a s xs) s ys ≡ write_neighbors a s ys
  unfolding write_neighbors
  write_again xs ys =
      let d = a.degree in
      let v = a.versions in
      λ i. arrays a.measure a.dim d a.vectors
      (put_again d n (padded d xs) (padded d ys) a.targets (length_padded d xs) (length_padded d ys) f.targets_long s h i)
      (put_again d n (new_edges d v xs) (new_edges d v ys) a.edges (length_new_edges d v xs) (length_new_edges d v ys) f.edges_long s h i)
      v a.marks

-- rows of different slots may be written in either order
pub writes_swap : (n : ℕ) (a : Arrays) → Shaped n a → (s t : ℕ) → s < n → t < n → s ≢ t → (xs ys : List ℕ)
    → write_neighbors (write_neighbors a s xs) t ys ≡ write_neighbors (write_neighbors a t ys) s xs
unfolding write_neighbors
writes_swap n a f s t hs ht other xs ys =
    let d = a.degree in
    let v = a.versions in
    λ i. arrays a.measure a.dim d a.vectors
    (put_both d n (padded d xs) (padded d ys) a.targets (length_padded d xs) (length_padded d ys) f.targets_long s t hs ht other i)
    (put_both d n (new_edges d v xs) (new_edges d v ys) a.edges (length_new_edges d v xs) (length_new_edges d v ys) f.edges_long s t hs ht other i)
    v a.marks

-- nothing else changes
module _ (a : Arrays) (s : ℕ) (ids : List ℕ) where
  pub written_vectors : (write_neighbors a s ids).vectors ≡ a.vectors
  unfolding write_neighbors
  written_vectors = refl

  pub written_versions : (write_neighbors a s ids).versions ≡ a.versions
  unfolding write_neighbors
  written_versions = refl

  pub written_marks : (write_neighbors a s ids).marks ≡ a.marks
  unfolding write_neighbors
  written_marks = refl

  pub written_sizes : ((write_neighbors a s ids).dim ≡ a.dim) × ((write_neighbors a s ids).degree ≡ a.degree)
  unfolding write_neighbors
  written_sizes = (refl, refl)
